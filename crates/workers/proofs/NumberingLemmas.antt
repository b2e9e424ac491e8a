-- Jobs are numbered, and handled.
use Rattle.std.proofs.Common.{◌≡◌, ◌⊎◌, ℕ, zero, suc, ◌+◌, ◌<◌, List, [], ◌∷◌, ◌++◌, length, get_or, drop, append-nil, append_assoc, inl, inr, refl, sym, ap, subst, ◌∙◌, arith}
use Rattle.std.specs.Prelude.{OnOk, Ok, Err, Result}
use Rattle.std.specs.List.Sorted.{IsStrictlyIncreasing}
use Rattle.std.proofs.lemmas.List.{length-map, map-append}
use Rattle.frames.specs.Account.{Job, Receipt}
use Rattle.frames.specs.Octets.{RawEvent}
use Rattle.receipts.specs.Jobs.{job_of}
use Rattle.workers.specs.Shared.{AddsJobs, AreLast, CountsFrom, GoesOn, SharedState, jobs_of_receipts, numbers_of_jobs, sent_for, shared_state}
use Rattle.workers.proofs.Standing.{part_handled}

at_snoc : (ns : List ℕ) (n k : ℕ) → k < length (ns ++ n ∷ [])
    → ((k < length ns) × (get_or (ns ++ n ∷ []) k 0 ≡ get_or ns k 0)) ⊎ ((k ≡ length ns) × (get_or (ns ++ n ∷ []) k 0 ≡ n))
at_snoc [] n zero low = inr (refl, refl)
at_snoc [] n (suc k) low = absurd (omega (arith, low))
at_snoc (m ∷ ns) n zero low = inl (omega arith, refl)
at_snoc (m ∷ ns) n (suc k) low = elim (at_snoc ns n k (omega (arith, low))) [
  | inl h ↦ inl (omega (arith, h.0), h.1)
  | inr h ↦ inr (ap suc h.0, h.1)
]

counts_more : (first n : ℕ) (ns : List ℕ) → CountsFrom first ns → n ≡ first + length ns → CountsFrom first (ns ++ n ∷ [])
counts_more first n ns counts is k low = elim (at_snoc ns n k low) [
  | inl h ↦ h.1 ∙ counts k h.0
  | inr h ↦ h.1 ∙ is ∙ ap (λ j. first + j) (sym h.0)
]

pub rises : (first : ℕ) (ns : List ℕ) → CountsFrom first ns → IsStrictlyIncreasing ns
rises first ns counts k low = let here = counts k (omega (arith, low)) in let next = counts (k + 1) low in omega (arith, here, next)

pub adds_none : (first : ℕ) (before : List Job) → AddsJobs first [] before before
adds_none first before = record {
  jobs = [];
  after_is = sym (append-nil before);
  numbers = λ k low. absurd (omega (arith, low));
  events_are = refl;
}

pub adds_more : (first number : ℕ) (event : RawEvent) (events : List RawEvent) (before now after : List Job) → AddsJobs first events before now
    → number ≡ first + length events → after ≡ now ++ job_of number event ∷ []
    → AddsJobs first (events ++ event ∷ []) before after
adds_more first number event events before now after so_far is more =
    let job = job_of number event in
    let count : length (numbers_of_jobs so_far.jobs) ≡ length events =
    length-map so_far.jobs (λ j. j.number) ∙ sym (length-map so_far.jobs (λ j. j.event)) ∙ ap length so_far.events_are in
    record {
      jobs = so_far.jobs ++ job ∷ [];
      after_is = more ∙ ap (λ (js : List Job). js ++ job ∷ []) so_far.after_is ∙ append_assoc before so_far.jobs (job ∷ []);
      numbers = subst (CountsFrom first) (sym (map-append (λ (j : Job). j.number) so_far.jobs (job ∷ [])))
          (counts_more first number (numbers_of_jobs so_far.jobs) so_far.numbers (is ∙ ap (λ k. first + k) (sym count)));
      events_are = map-append (λ (j : Job). j.event) so_far.jobs (job ∷ []) ∙ ap (λ (es : List RawEvent). es ++ event ∷ []) so_far.events_are;
    }

pub adds_if : {F : Type 0} (first : ℕ) (events : List RawEvent) (before same after : List Job) (answer : Result Unit F) → before ≡ same
    → OnOk answer (AddsJobs first events before after)
    → OnOk answer ((n : ℕ) × AddsJobs n events same after)
adds_if first events before same after (Ok x) is adds = (first, subst (λ (js : List Job). AddsJobs first events js after) is adds)
adds_if first events before same after (Err e) is adds = tt

-- ---- the jobs that were added

behind : (xs ys : List Job) → drop (length xs) (xs ++ ys) ≡ ys
behind [] ys = refl
behind (x ∷ xs) ys = behind xs ys

pub added_are : (first from : ℕ) (events : List RawEvent) (before after : List Job) (adds : AddsJobs first events before after) → from ≡ length before
    → drop from after ≡ adds.jobs
added_are first from events before after adds is =
    ap (λ k. drop k after) is ∙ ap (drop (length before)) adds.after_is ∙ behind before adds.jobs

pub added_rise : (first from : ℕ) (events : List RawEvent) (before after : List Job) → AddsJobs first events before after → from ≡ length before
    → IsStrictlyIncreasing (numbers_of_jobs (drop from after))
added_rise first from events before after adds is =
    subst IsStrictlyIncreasing (ap numbers_of_jobs (sym (added_are first from events before after adds is))) (rises first (numbers_of_jobs adds.jobs) adds.numbers)

-- What a part does, once its jobs are added.
pub part_added : (a b c d after : SharedState) (first from : ℕ) (raws : List RawEvent) (receipts : List Receipt) → GoesOn a [] [] b
    → AddsJobs first raws b.jobs c.jobs
    → c ≡ shared_state b.bases c.jobs b.receipts
    → from ≡ length b.jobs → d ≡ c
    → jobs_of_receipts receipts ≡ numbers_of_jobs (drop from c.jobs)
    → after ≡ shared_state d.bases d.jobs (d.receipts ++ receipts)
    → (last : List Receipt) × GoesOn a raws (sent_for last) after × AreLast last after
part_added a b c d after first from raws receipts room adds was is same pairs kept =
    part_handled a b b after adds.jobs receipts raws room refl adds.events_are
    (pairs ∙ ap numbers_of_jobs (added_are first from raws b.jobs c.jobs adds is))
    (kept ∙ ap (λ (s : SharedState). shared_state s.bases s.jobs (s.receipts ++ receipts)) (same ∙ was)
    ∙ ap (λ (js : List Job). shared_state b.bases js (b.receipts ++ receipts)) adds.after_is)
