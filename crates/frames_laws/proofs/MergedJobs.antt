-- The entries of a merge are those of the jobs, each once.
use Rattle.std.proofs.Common.{◌≡◌, ℕ, suc, ◌+◌, ◌<◌, ◌≤◌, eqb, eq-eqb, cond, true, false, List, [], ◌∷◌, ◌++◌, length, map, filter, sym, refl, ap, ◌∙◌, subst, inl, inr, ⊎_elim, arith, Option, Some, None}
use Rattle.std.specs.Prelude.{slice_get}
use Rattle.std.proofs.lemmas.Bool.{eqb-true, eqb-false}
use Rattle.std.proofs.lemmas.Option.{slice_get_within, slice_get_cases}
use Rattle.machine.specs.Keys.{put_at}
use Rattle.frames.specs.Octets.{RawEntry}
use Rattle.frames.specs.OctetJournals.{MergesOctets}
use Rattle.frames.specs.Account.{Job, Place, Receipt, Account, Reconciles, entry_at, in_journal, numbers}
use Rattle.frames_laws.specs.AccountLaws.{StandsAt, EachEntryOnce}
use Rattle.frames_laws.proofs.AccountedEntries.{entries_are_one_job}
use Rattle.frames_laws.proofs.Amongs.{Among, all_among}
use Rattle.frames_laws.specs.MergedJobs.{IsEntryOf, AreEntriesOf, AreJobs, MergedAreJobs}
use Rattle.frames_laws.proofs.Counts.{count, count-cons, one_at, permutation_of_counts}
use Rattle.frames_laws.proofs.Totals.{total, total_more, total_none, total_one}

-- ---- a merge of the entries merges the numbers

put_same : {X : Type 0} (f : ℕ → X) (n : ℕ) (x : X) → put_at f n x n ≡ x
unfolding put_at
put_same f n x = ap (λ b. cond b x (f n)) (eq-eqb n n refl)

put_other : {X : Type 0} (f : ℕ → X) (n : ℕ) (x : X) (m : ℕ) → (m ≡ n → ⊥) → put_at f n x m ≡ f m
unfolding put_at
put_other f n x m other =
    elim (eqb n m) as (λ b. eqb n m ≡ b → cond b x (f m) ≡ f m) [
      | true ↦ λ e. absurd (other (sym (eqb-true n m e)))
      | false ↦ λ e. refl
    ] refl

module _ (jobs : List Job) (receipts : List Receipt) where
  abbrev Walk : (ℕ → List ℕ) → List RawEntry → Type 0
  Walk nss merge = (order : List ℕ) × AreEntriesOf jobs receipts merge order × ((m : ℕ) → count m order ≡ total 16 (λ n. count m (nss n)))

  abbrev Head : RawEntry → List RawEntry → List ℕ → Type 0
  Head raw rest ns = (x : ℕ) × (xs : List ℕ) × (ns ≡ x ∷ xs) × IsEntryOf jobs receipts raw x × AreEntriesOf jobs receipts rest xs

  head_of : (raw : RawEntry) (rest : List RawEntry) (ns : List ℕ) → AreEntriesOf jobs receipts (raw ∷ rest) ns → Head raw rest ns
  head_of raw rest [] h = absurd h
  head_of raw rest (x ∷ xs) h = (x, xs, refl, h.0, h.1)

  no_number : (ns : List ℕ) → AreEntriesOf jobs receipts [] ns → ns ≡ []
  no_number [] h = refl
  no_number (n ∷ ns) h = absurd h

  walk : (rests : ℕ → List RawEntry) (nss : ℕ → List ℕ) (merge : List RawEntry) → ((n : ℕ) → n < 16 → AreEntriesOf jobs receipts (rests n) (nss n))
      → MergesOctets rests merge → Walk nss merge
  walk rests nss [] are merges = (
    [],
    tt,
    λ m. sym (total_none 16 (λ n. count m (nss n)) (λ n low. ap (count m)
        (no_number (nss n) (subst (λ es. AreEntriesOf jobs receipts es (nss n)) (merges n low) (are n low))))),
  )
  walk rests nss (raw ∷ merge) are merges =
      let n = merges.0 in let rest = merges.1 in let low = merges.2 in let is = merges.3 in
      let h = head_of raw rest (nss n) (subst (λ es. AreEntriesOf jobs receipts es (nss n)) is (are n low)) in
      let x = h.0 in let xs = h.1 in
      let next : (j : ℕ) → j < 16 → AreEntriesOf jobs receipts (put_at rests n rest j) (put_at nss n xs j) = λ j under.
      elim (eqb j n) as (λ b. eqb j n ≡ b → AreEntriesOf jobs receipts (put_at rests n rest j) (put_at nss n xs j)) [
        | true ↦ λ e.
            let same = eqb-true j n e in
            subst (λ k. AreEntriesOf jobs receipts (put_at rests n rest k) (put_at nss n xs k)) (sym same)
            (subst (λ (p : List RawEntry × List ℕ). AreEntriesOf jobs receipts p.0 p.1) (λ i. (sym (put_same rests n rest) i, sym (put_same nss n xs) i)) h.4)
        | false ↦ λ e.
            let other = eqb-false j n e in
            subst (λ (p : List RawEntry × List ℕ). AreEntriesOf jobs receipts p.0 p.1)
            (λ i. (sym (put_other rests n rest j other) i, sym (put_other nss n xs j other) i)) (are j under)
      ] refl in
      let more = walk (put_at rests n rest) (put_at nss n xs) merge next merges.4 in (
        x ∷ more.0,
        (h.3, more.1),
        λ m.
            let here : count m (nss n) ≡ one_at m x + count m (put_at nss n xs n) =
            ap (count m) h.2 ∙ count-cons m x xs ∙ ap (λ l. one_at m x + count m l) (sym (put_same nss n xs)) in
            let sums = total_more 16 n (one_at m x) (λ j. count m (nss j)) (λ j. count m (put_at nss n xs j)) low here
            (λ j other. ap (count m) (sym (put_other nss n xs j other))) in
            let a = count-cons m x more.0 in let b = more.2 m in omega arith,
      )

-- ---- the numbers of a journal's entries

module _ (ls : List (List RawEntry)) (jobs : List Job) (receipts : List Receipt) (h : EachEntryOnce ls jobs receipts) where
  abbrev Stands : ℕ → ℕ → ℕ → Type 0
  Stands n s p = StandsAt ls jobs receipts n s p

  -- the numbers of entries from a position on
  abbrev AreNumbered : (s p : ℕ) → List RawEntry → List ℕ → Type 0
  AreNumbered s p [] [] = Unit {0}
  AreNumbered s p [] (n ∷ ns) = ⊥
  AreNumbered s p (e ∷ es) [] = ⊥
  AreNumbered s p (e ∷ es) (n ∷ ns) = Stands n s p × (entry_at ls s p ≡ Some e) × AreNumbered s (suc p) es ns

  abbrev Stand : (s p : ℕ) → List RawEntry → Type 0
  Stand s p es = (k : ℕ) (e : RawEntry) → slice_get es k ≡ Some e → entry_at ls s (p + k) ≡ Some e

  number : (s p : ℕ) (es : List RawEntry) → Stand s p es → (ns : List ℕ) × AreNumbered s p es ns
  number s p [] stand = ([], tt)
  number s p (e ∷ es) stand =
      let here : entry_at ls s p ≡ Some e = let plain : p + 0 ≡ p = omega arith in subst (λ k. entry_at ls s k ≡ Some e) plain (stand 0 e refl) in
      let n = h.some s p e here in
      let rest = number s (suc p) es (λ k x at. let same : p + suc k
      ≡ suc p + k = omega arith in subst (λ j. entry_at ls s j ≡ Some x) same (stand (suc k) x at)) in
      (n.0 ∷ rest.0, (n.1, here, rest.1))

  some_same : (a b : RawEntry) (o : Option RawEntry) → o ≡ Some a → o ≡ Some b → a ≡ b
  some_same a b o x y = cc

  entry_of : (s p n : ℕ) (e : RawEntry) → Stands n s p → entry_at ls s p ≡ Some e → IsEntryOf jobs receipts e n
  entry_of s p n e stands at =
      let a = stands.account in
      let there : entry_at ls s p ≡ Some a.answers.entry = subst (λ (q : ℕ × ℕ). entry_at ls q.0 q.1 ≡ Some a.answers.entry)
      (λ i. (stands.shard_is i, stands.position_is i)) a.answers.stands in
      let same : e ≡ a.answers.entry = some_same e a.answers.entry (entry_at ls s p) at there in
      record {
        job = a.job;
        receipt = a.receipt;
        place = a.place;
        one_job = a.one_job;
        one_receipt = a.one_receipt;
        is_ok = a.is_ok;
        event = ap (λ (x : RawEntry). x.event) same ∙ a.answers.event;
        outs = ap (λ (x : RawEntry). x.outs) same ∙ a.answers.outs;
      }

  are_entries : (s p : ℕ) (es : List RawEntry) (ns : List ℕ) → AreNumbered s p es ns → AreEntriesOf jobs receipts es ns
  are_entries s p [] [] are = tt
  are_entries s p [] (n ∷ ns) are = absurd are
  are_entries s p (e ∷ es) [] are = absurd are
  are_entries s p (e ∷ es) (n ∷ ns) are = (entry_of s p n e are.0 are.1, are_entries s (suc p) es ns are.2)

  -- the place of a number is one
  place_once : (n s p t q : ℕ) → Stands n s p → Stands n t q → (s ≡ t) × (p ≡ q)
  place_once n s p t q a b =
      let first : a.account.receipt ∷ [] ≡ b.account.receipt ∷ [] = sym a.account.one_receipt ∙ b.account.one_receipt in
      let same : a.account.receipt ≡ b.account.receipt = cc in
      let places : Some a.account.place ≡ Some b.account.place = sym a.account.is_ok ∙ ap (λ (r : Receipt). r.place) same ∙ b.account.is_ok in
      let place : a.account.place ≡ b.account.place = cc in
      (sym a.shard_is ∙ ap (λ (x : Place). x.shard) place ∙ b.shard_is, sym a.position_is ∙ ap (λ (x : Place). x.position) place ∙ b.position_is)

  module _ (m s p : ℕ) (stands : Stands m s p) where
    -- elsewhere the number does not occur
    none_past : (q : ℕ) (es : List RawEntry) (ns : List ℕ) (t : ℕ) → ((k : ℕ) → q ≤ k → (s ≡ t) × (p ≡ k) → ⊥) → AreNumbered t q es ns → count m ns ≡ 0
    none_past q [] [] t apart are = refl
    none_past q [] (n ∷ ns) t apart are = absurd are
    none_past q (e ∷ es) [] t apart are = absurd are
    none_past q (e ∷ es) (n ∷ ns) t apart are =
        elim (eqb n m) as (λ b. eqb n m ≡ b → count m (n ∷ ns) ≡ 0) [
          | true ↦ λ is. absurd (apart q (omega arith) (place_once m s p t q stands (subst (λ k. Stands k t q) (eqb-true n m is) are.0)))
          | false ↦ λ is.
              let a = count-cons m n ns in let none : one_at m n ≡ 0 = ap (λ b. cond b 1 0) is in
              let rest = none_past (suc q) es ns t (λ k over. apart k (omega arith)) are.2 in omega arith
        ] refl

    -- at its own place it occurs once
    one_here : (q : ℕ) (es : List RawEntry) (ns : List ℕ) → q ≤ p → p < q + length es → AreNumbered s q es ns → count m ns ≡ 1
    one_here q [] ns le lt are = absurd (omega arith)
    one_here q (e ∷ es) [] le lt are = absurd are
    one_here q (e ∷ es) (n ∷ ns) le lt are =
        elim (eqb n m) as (λ b. eqb n m ≡ b → count m (n ∷ ns) ≡ 1) [
          | true ↦ λ is.
              let here = place_once m s p s q stands (subst (λ k. Stands k s q) (eqb-true n m is) are.0) in
              let at : p ≡ q = here.1 in
              let a = count-cons m n ns in let one : one_at m n ≡ 1 = ap (λ b. cond b 1 0) is in
              let rest = none_past (suc q) es ns s (λ k over x. let same = x.1 in omega arith) are.2 in omega arith
          | false ↦ λ is.
              let other : p ≡ q → ⊥ = λ same. eqb-false n m is (h.one n m s q are.0 (subst (λ k. Stands m s k) same stands)) in
              let a = count-cons m n ns in let none : one_at m n ≡ 0 = ap (λ b. cond b 1 0) is in
              let low : suc q ≤ p = omega arith in
              let rest = one_here (suc q) es ns low (omega arith) are.2 in omega arith
        ] refl

  -- a number that is counted occurs somewhere
  found : (m s q : ℕ) (es : List RawEntry) (ns : List ℕ) → AreNumbered s q es ns → 0 < count m ns → (p : ℕ) × Stands m s p
  found m s q [] [] are some = absurd (omega arith)
  found m s q [] (n ∷ ns) are some = absurd are
  found m s q (e ∷ es) [] are some = absurd are
  found m s q (e ∷ es) (n ∷ ns) are some =
      elim (eqb n m) as (λ b. eqb n m ≡ b → (p : ℕ) × Stands m s p) [
        | true ↦ λ is. (q, subst (λ k. Stands k s q) (eqb-true n m is) are.0)
        | false ↦ λ is.
            let a = count-cons m n ns in let none : one_at m n ≡ 0 = ap (λ b. cond b 1 0) is in
            found m s (suc q) es ns are.2 (omega arith)
      ] refl

-- ---- all journals

-- what filter leaves, counted
count_filtered : (n : ℕ) (jobs : List Job) → length (filter (λ j. eqb j.number n) jobs) ≡ count n (map (λ j. j.number) jobs)
count_filtered n [] = refl
count_filtered n (j ∷ jobs) =
    elim (eqb j.number n) as (λ b. eqb j.number n ≡ b → length (cond b (j ∷ filter (λ x. eqb x.number n) jobs) (filter (λ x. eqb x.number n) jobs))
    ≡ count n (j.number ∷ map (λ x. x.number) jobs)) [
      | true ↦ λ e. let a = count-cons n j.number (map (λ (x : Job). x.number) jobs) in let one : one_at n j.number
          ≡ 1 = ap (λ b. cond b 1 0) e in let rest = count_filtered n jobs in omega arith
      | false ↦ λ e. let a = count-cons n j.number (map (λ (x : Job). x.number) jobs) in let none : one_at n j.number
          ≡ 0 = ap (λ b. cond b 1 0) e in let rest = count_filtered n jobs in omega arith
    ] refl

among_counted : (n : ℕ) (ms : List ℕ) → 0 < count n ms → Among ms n
among_counted n [] some = absurd (omega arith)
among_counted n (m ∷ ms) some =
    elim (eqb m n) as (λ b. eqb m n ≡ b → Among (m ∷ ms) n) [
      | true ↦ λ e. inl (eqb-true m n e)
      | false ↦ λ e. let a = count-cons n m ms in let none : one_at n m ≡ 0 = ap (λ b. cond b 1 0) e in inr (among_counted n ms (omega arith))
    ] refl

among_left : (xs ys : List ℕ) (x : ℕ) → Among xs x → Among (xs ++ ys) x
among_left [] ys x at = absurd at
among_left (z ∷ xs) ys x at = ⊎_elim (λ e. inl e) (λ a. inr (among_left xs ys x a)) at

-- the journal of a shard, empty if there is none
abbrev journal_of : Option (List RawEntry) → List RawEntry
journal_of None = []
journal_of (Some es) = es

in_own : (o : Option (List RawEntry)) (k : ℕ) (e : RawEntry) → slice_get (journal_of o) k ≡ Some e → in_journal o k ≡ Some e
in_own None k e found = absurd (cc found)
in_own (Some es) k e found = found

own_in : (o : Option (List RawEntry)) (k : ℕ) (e : RawEntry) → in_journal o k ≡ Some e → k < length (journal_of o)
own_in None k e found = absurd (cc found)
own_in (Some es) k e found = slice_get_within es k e found

is_there : (ls : List (List RawEntry)) (s k : ℕ) (e : RawEntry) → in_journal (slice_get ls s) k ≡ Some e → s < length ls
is_there ls s k e found =
    ⊎_elim (λ here. here.1) (λ gone. let none : None ≡ Some e = ap (λ o. in_journal o k) (sym gone.1) ∙ found in absurd (cc none)) (slice_get_cases ls s).1

module _ (ls : List (List RawEntry)) (jobs : List Job) (receipts : List Receipt) (sixteen : length ls ≡ 16) (all : Reconciles ls jobs receipts) where
  once : EachEntryOnce ls jobs receipts
  once = entries_are_one_job ls jobs receipts all

  abbrev at : ℕ → List RawEntry
  at s = journal_of (slice_get ls s)

  numbered : (s : ℕ) → (ns : List ℕ) × AreNumbered ls jobs receipts once s 0 (at s) ns
  numbered s = number ls jobs receipts once s 0 (at s) (λ k e found. let same : k
      ≡ 0 + k = omega arith in subst (λ j. entry_at ls s j ≡ Some e) same (in_own (slice_get ls s) k e found))

  ns : ℕ → List ℕ
  ns s = (numbered s).0

  are : (s : ℕ) → AreNumbered ls jobs receipts once s 0 (at s) (ns s)
  unfolding ns
  are s = (numbered s).1

  -- one job has a job's number
  one_job : (m : ℕ) (a : Account ls jobs receipts m) → count m (map (λ (j : Job). j.number) jobs) ≡ 1
  one_job m a = sym (count_filtered m jobs) ∙ ap length a.one_job

  no_job : (m : ℕ) → count m (map (λ (j : Job). j.number) jobs) ≡ 0 → (s : ℕ) → count m (ns s) ≡ 0
  no_job m none s =
      let stands_not : 0 < count m (ns s) → ⊥ = λ some. let f = found ls jobs receipts once m s 0 (at s) (ns s)
      (are s) some in let one = one_job m f.1.account in omega arith in
      omega arith

  each : (m : ℕ) → count m (map (λ (j : Job). j.number) jobs) ≡ total 16 (λ s. count m (ns s))
  each m =
      let c : ℕ = count m (map (λ (j : Job). j.number) jobs) in
      elim (eqb c 0) as (λ b. eqb c 0 ≡ b → c ≡ total 16 (λ s. count m (ns s))) [
        | true ↦ λ e. let none = eqb-true c 0 e in let zeros = total_none 16 (λ s. count m (ns s)) (λ s _. no_job m none s) in omega arith
        | false ↦ λ e.
            let other = eqb-false c 0 e in
            let a : Account ls jobs receipts m = all_among (Account ls jobs receipts) (numbers jobs receipts) m all.each
            (among_left (map (λ (j : Job). j.number) jobs) (map (λ (r : Receipt). r.job) receipts) m
            (among_counted m (map (λ (j : Job). j.number) jobs) (omega arith))) in
            let s = a.place.shard in let p = a.place.position in
            let stands : StandsAt ls jobs receipts m s p = record { account = a; shard_is = refl; position_is = refl } in
            let low : s < 16 = let under = is_there ls s p a.answers.entry a.answers.stands in omega arith in
            let within = own_in (slice_get ls s) p a.answers.entry a.answers.stands in
            let here = one_here ls jobs receipts once m s p stands 0 (at s) (ns s) (omega arith) (omega arith) (are s) in
            let elsewhere : (j : ℕ) → (j ≡ s → ⊥) → count m (ns j)
            ≡ 0 = λ j apart. none_past ls jobs receipts once m s p stands 0 (at j) (ns j) j (λ k over x. apart (sym x.0)) (are j) in
            let sums = total_one 16 s 1 (λ j. count m (ns j)) low here elsewhere in let one = one_job m a in omega arith
      ] refl

  jobs_merged : (js : ℕ → List RawEntry) (merge : List RawEntry) → ((n : ℕ) → n < 16 → slice_get ls n ≡ Some (js n)) → MergesOctets js merge
      → AreJobs jobs receipts merge
  jobs_merged js merge is merges =
      let mine : (n : ℕ) → n < 16 → AreEntriesOf jobs receipts (js n) (ns n) = λ n low.
      subst (λ es. AreEntriesOf jobs receipts es (ns n)) (ap journal_of (is n low)) (are_entries ls jobs receipts once n 0 (at n) (ns n) (are n)) in
      let w = walk jobs receipts js ns merge mine merges in
      record { order = w.0; each_once = permutation_of_counts (map (λ (j : Job). j.number) jobs) w.0 (λ m. each m ∙ sym (w.2 m)); are = w.1 }

pub merged_jobs : MergedAreJobs
merged_jobs js ls jobs receipts merge sixteen is all merges = jobs_merged ls jobs receipts sixteen all js merge is merges
