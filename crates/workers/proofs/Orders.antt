-- Runs whose events are in another order, and the run of jobs that account for journals.
use Rattle.std.proofs.Common.{◌≡◌, ◌==◌, ℕ, zero, suc, ◌<◌, ◌≤◌, eq-eqb, ne_eqb, cond, Bool, true, List, [], ◌∷◌, ◌++◌, length, map, filter, length-append, sym, refl, ap, ◌∙◌, subst, inl, inr, ⊎_elim, arith}
use Rattle.std.specs.Prelude.{zip}
use Rattle.std.specs.List.Sorted.{IsPermutation}
use Rattle.std.proofs.lemmas.Bool.{cases_eq}
use Rattle.std.proofs.lemmas.List.{map-append, length-map}
use Rattle.std.proofs.lemmas.List.Sorted.{IsPermutation-append, IsPermutation-map, IsPermutation-refl}
use Rattle.machine.specs.Keys.{put_at}
use Rattle.machine.specs.State.{State}
use Rattle.frames.specs.Account.{Account, Job, Receipt, Reconciles, numbers}
use Rattle.frames.specs.Octets.{RawClock, RawEntry, RawEvent, RawOut}
use Rattle.frames.specs.OctetJournals.{MergesOctets}
use Rattle.frames_laws.specs.MergedJobs.{AreEntriesOf, AreJobs}
use Rattle.frames_laws.proofs.Amongs.{Among, all_among, among_map, in_filter}
use Rattle.records.specs.Maps.{DirectoryMap}
use Rattle.shardlog.specs.Log.{Log}
use Rattle.wholenode.specs.Keeping.{AreShards}
use Rattle.wholenode.specs.Nodes.{journals, whole, whole_base}
use Rattle.receipts.specs.Journals.{journal_list}
use Rattle.workers.specs.Shared.{IsRunInSomeOrder, event_and_frames, events_of_jobs, jobs_of_receipts, numbers_of_jobs, sent_at, sent_for}
use Rattle.workers.proofs.MergedRuns.{merges_are_runs_of_jobs}
use Rattle.workers.proofs.Runs.{run_join}

-- ---- one run after the other

zip-append : {A B : Type 0} (xs us : List A) (ys vs : List B) → length ys ≡ length xs → zip (xs ++ us) (ys ++ vs) ≡ zip xs ys ++ zip us vs
zip-append [] us [] vs same = refl
zip-append [] us (y ∷ ys) vs same = absurd (omega arith)
zip-append (x ∷ xs) us [] vs same = absurd (omega arith)
zip-append (x ∷ xs) us (y ∷ ys) vs same = ap (λ l. (x, y) ∷ l) (zip-append xs us ys vs (omega arith))

pub joined : (S M T : State) (es us : List RawEvent) (xs ys : List (List RawOut)) → IsRunInSomeOrder S es xs M → IsRunInSomeOrder M us ys T
    → IsRunInSomeOrder S (es ++ us) (xs ++ ys) T
joined S M T es us xs ys a b = record {
  entries = a.entries ++ b.entries;
  one_each = let x = a.one_each in let y = b.one_each in omega (arith, length-append es us, length-append xs ys);
  order = subst (λ (p : List (RawEvent × List RawOut) × List (RawEvent × List RawOut)). IsPermutation p.0 p.1)
      (λ i. ((sym (zip-append es us xs ys a.one_each)) i, (sym (map-append event_and_frames a.entries b.entries)) i))
      (IsPermutation-append (zip es xs) (map event_and_frames a.entries) (zip us ys) (map event_and_frames b.entries) a.order b.order);
  run = run_join S M T a.entries b.entries a.run b.run;
}

-- the empty list of events leads from a state to itself
pub no_run : (S T : State) → T ≡ S → IsRunInSomeOrder S [] [] T
no_run S T same = record { entries = []; one_each = refl; order = IsPermutation-refl []; run = same }

-- ---- journals have a merge

abbrev Merged : (ℕ → List RawEntry) → Type 0
Merged js = (merge : List RawEntry) × MergesOctets js merge

abbrev NoneFrom : ℕ → (ℕ → List RawEntry) → Type 0
NoneFrom k js = (n : ℕ) → k ≤ n → n < 16 → js n ≡ []

put_same : (js : ℕ → List RawEntry) (k : ℕ) (xs : List RawEntry) → put_at js k xs k ≡ xs
unfolding put_at
put_same js k xs = ap (λ b. cond b xs (js k)) (eq-eqb k k refl)

put_other : (js : ℕ → List RawEntry) (k : ℕ) (xs : List RawEntry) (n : ℕ) → (k ≡ n → ⊥) → put_at js k xs n ≡ js n
unfolding put_at
put_other js k xs n other = ap (λ b. cond b xs (js n)) (ne_eqb k n other)

-- first all of journal k, and then the others
drain : (k : ℕ) → k < 16 → ((js : ℕ → List RawEntry) → NoneFrom k js → Merged js) → (xs : List RawEntry) (js : ℕ → List RawEntry) → js k ≡ xs
    → NoneFrom (suc k) js
    → Merged js
drain k small go [] js is none = go js (λ n le lt. ⊎_elim (λ (e : k ≡ n). ap js (sym e) ∙ is) (λ (ne : k ≡ n → ⊥). none n (omega arith) lt) (cases_eq k n))
drain k small go (x ∷ xs) js is none =
    let rest = drain k small go xs (put_at js k xs) (put_same js k xs)
    (λ n le lt. put_other js k xs n (λ (e : k ≡ n). absurd (omega arith)) ∙ none n le lt) in
    (x ∷ rest.0, (k, xs, small, is, rest.1))

merge_below : (k : ℕ) → k ≤ 16 → (js : ℕ → List RawEntry) → NoneFrom k js → Merged js
merge_below zero le js none = ([], λ n lt. none n (omega arith) lt)
merge_below (suc k) le js none = drain k (omega arith) (λ fs h. merge_below k (omega arith) fs h) (js k) js refl none

some_merge : (js : ℕ → List RawEntry) → Merged js
some_merge js = merge_below 16 (omega arith) js (λ n le lt. absurd (omega arith))

-- ---- the run of jobs

only_one : {X : Type 0} (p : X → Bool) (xs : List X) (x y : X) → filter p xs ≡ x ∷ [] → Among xs y → p y ≡ true → filter p xs ≡ y ∷ []
only_one p xs x y one at passes =
    let among = subst (λ l. Among l y) one (in_filter p xs y passes at) in
    ⊎_elim (λ (e : x ≡ y). one ∙ ap (λ z. z ∷ []) e) (λ none. absurd none) among

among_left : {X : Type 0} (xs ys : List X) (x : X) → Among xs x → Among (xs ++ ys) x
among_left [] ys x at = absurd at
among_left (z ∷ xs) ys x at = ⊎_elim (λ e. inl e) (λ a. inr (among_left xs ys x a)) at

abbrev first_event : List Job → RawEvent
first_event [] = RawClock 0 0
first_event (j ∷ jobs) = j.event

abbrev first_sent : List Receipt → List RawOut
first_sent [] = []
first_sent (r ∷ receipts) = sent_at r.place

module _ (jobs : List Job) (receipts : List Receipt) where
  -- the event and the frames of the job of this number
  abbrev pair_at : ℕ → RawEvent × List RawOut
  pair_at n = (first_event (filter (λ j. j.number == n) jobs), first_sent (filter (λ r. r.job == n) receipts))

  of_entries : (entries : List RawEntry) (order : List ℕ) → AreEntriesOf jobs receipts entries order → map pair_at order ≡ map event_and_frames entries
  of_entries [] [] are = refl
  of_entries [] (n ∷ ns) are = absurd are
  of_entries (e ∷ es) [] are = absurd are
  of_entries (e ∷ es) (n ∷ ns) are =
      let event : first_event (filter (λ j. j.number == n) jobs) ≡ e.event = ap first_event are.0.one_job ∙ sym are.0.event in
      let outs : first_sent (filter (λ r. r.job == n) receipts) ≡ e.outs = ap first_sent are.0.one_receipt ∙ ap sent_at are.0.is_ok ∙ sym are.0.outs in
      let rest = of_entries es ns are.1 in
      λ i. (event i, outs i) ∷ rest i

  module _ (ls : List (List RawEntry)) (all : Reconciles ls jobs receipts) where
    account : (j : Job) → Among jobs j → Account ls jobs receipts j.number
    account j at = all_among (Account ls jobs receipts) (numbers jobs receipts) j.number all.each
        (among_left (map (λ (x : Job). x.number) jobs) (map (λ (x : Receipt). x.job) receipts) j.number (among_map (λ (x : Job). x.number) jobs j at))

    pair_of : (j : Job) (r : Receipt) → Among jobs j → Among receipts r → r.job ≡ j.number → pair_at j.number ≡ (j.event, sent_at r.place)
    pair_of j r at too same =
        let a = account j at in
        let event = ap first_event (only_one (λ (x : Job). x.number == j.number) jobs a.job j a.one_job at (eq-eqb j.number j.number refl)) in
        let outs = ap first_sent (only_one (λ (x : Receipt). x.job == j.number) receipts a.receipt r a.one_receipt too (eq-eqb r.job j.number same)) in
        λ i. (event i, outs i)

    of_jobs : (js : List Job) (rs : List Receipt) → ((j : Job) → Among js j → Among jobs j) → ((r : Receipt) → Among rs r → Among receipts r)
        → jobs_of_receipts rs ≡ numbers_of_jobs js → map pair_at (numbers_of_jobs js) ≡ zip (events_of_jobs js) (sent_for rs)
    of_jobs [] rs in_js in_rs same = refl
    of_jobs (j ∷ js) [] in_js in_rs same = absurd (cc same)
    of_jobs (j ∷ js) (r ∷ rs) in_js in_rs same =
        let number : r.job ≡ j.number = cc in
        let more : jobs_of_receipts rs ≡ numbers_of_jobs js = cc in
        let here = pair_of j r (in_js j (inl refl)) (in_rs r (inl refl)) number in
        let rest = of_jobs js rs (λ x at. in_js x (inr at)) (λ x at. in_rs x (inr at)) more in
        λ i. here i ∷ rest i

    in_order : (entries : List RawEntry) → jobs_of_receipts receipts ≡ numbers_of_jobs jobs → AreJobs jobs receipts entries
        → IsPermutation (zip (events_of_jobs jobs) (sent_for receipts)) (map event_and_frames entries)
    in_order entries pairs are =
        subst (λ (p : List (RawEvent × List RawOut) × List (RawEvent × List RawOut)). IsPermutation p.0 p.1)
        (λ i. (of_jobs jobs receipts (λ j at. at) (λ r at. at) pairs i, of_entries entries are.order are.are i))
        (IsPermutation-map pair_at (numbers_of_jobs jobs) are.order are.each_once)

abbrev RunOfJobs : List Log → List Job → List Receipt → Type 0
RunOfJobs shards jobs receipts = (run : IsRunInSomeOrder (whole_base shards) (events_of_jobs jobs) (sent_for receipts) (whole shards))
    × MergesOctets (journals shards) run.entries

-- If jobs and receipts, pairwise by their numbers, account for the journals of sixteen shards, the jobs are such a run from the bases, and its
-- entries merge the journals.
pub run_of_jobs : (directory : DirectoryMap) (shards : List Log) (jobs : List Job) (receipts : List Receipt) → AreShards directory shards
    → Reconciles (journal_list shards) jobs receipts → jobs_of_receipts receipts ≡ numbers_of_jobs jobs → RunOfJobs shards jobs receipts
run_of_jobs directory shards jobs receipts are account pairs =
    let merge = some_merge (journals shards) in
    let is = merges_are_runs_of_jobs directory shards jobs receipts merge.0 are account merge.1 in (
      record {
        entries = merge.0;
        one_each = length-map receipts (λ (r : Receipt). sent_at r.place) ∙ sym (length-map receipts (λ (r : Receipt). r.job)) ∙ ap length pairs
            ∙ length-map jobs (λ (j : Job). j.number)
            ∙ sym (length-map jobs (λ (j : Job). j.event));
        order = in_order jobs receipts (journal_list shards) account merge.0 pairs is.jobs_are;
        run = is.run;
      },
      merge.1,
    )
