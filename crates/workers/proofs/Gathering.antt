-- The sender's pass, from worker to worker.
use Rattle.std.proofs.Common.{◌≡◌, ℕ, ◌+◌, Bool, true, false, List, ◌++◌, map, sym, refl, ap, ap₂, ◌∙◌, subst, arith, Result, Ok, Err}
use Rattle.std.specs.Prelude.{IfOk, IsOkAnd}
use Rattle.std.proofs.lemmas.List.{map-append}
use Rattle.frames.specs.Account.{Job, Receipt}
use Rattle.workers.specs.declared.rule.Hand.{Hand}
use Rattle.workers.specs.Hands.{hand}
use Rattle.workers.specs.Batch.{HasGathered, HasTaken, batch_of, numbers_of, stops_in}
use Rattle.workers.proofs.Serving.{numbers_of-append, stops_in-append}

-- the numbers of the jobs that the receipts are for
abbrev jobs_of : List Receipt → List ℕ
jobs_of rs = map (λ r. r.job) rs

one_more : (shares joined : ℕ) (jobs : List Job) (workers : ℕ) (others mine all : List Receipt) (v u x : Hand)
    → HasGathered shares joined jobs workers (jobs_of others) v → HasTaken jobs 1 u (jobs_of mine) false → all ≡ others ++ mine
    → x ≡ hand v.sends (v.shares + u.shares) v.sent (v.taken ++ u.taken) → HasGathered (shares + 1) (joined + 1) jobs workers (jobs_of all) x
one_more shares joined jobs workers others mine all v u x h served is now =
    let taken : x.taken ≡ v.taken ++ u.taken = ap (λ (y : Hand). y.taken) now in
    record {
      lots = h.lots;
      all = h.all;
      sent = now
          ∙ ap₂ (λ (y z : Hand). hand y.sends (y.shares + z.shares) y.sent (v.taken ++ u.taken)) h.sent served.own
          ∙ ap (hand true (shares + 1) (batch_of h.lots workers)) (sym taken);
      stopped = let a = ap stops_in taken in let b = stops_in-append v.taken u.taken in let c = h.stopped in let d = served.stopped in omega arith;
      answered = ap (numbers_of jobs) taken ∙ numbers_of-append jobs v.taken u.taken ∙ ap₂ ◌++◌ h.answered (sym (served.answered.1 refl))
          ∙ sym (map-append (λ r. r.job) others mine) ∙ ap jobs_of (sym is);
    }

pub gathers : {V E : Type 0} (items : V → List Receipt) (mine : List Receipt) (shares joined : ℕ) (jobs theirs : List Job) (workers : ℕ)
    (refused : Bool) (v u x : Hand) (others all : Result V E)
    → theirs ≡ jobs
    → IfOk others (λ o. HasGathered shares joined jobs workers (jobs_of (items o)) v)
    → HasTaken theirs 1 u (jobs_of mine) refused
    → x ≡ hand v.sends (v.shares + u.shares) v.sent (v.taken ++ u.taken)
    → IfOk all (λ a. IsOkAnd others (λ o. (items a ≡ items o ++ mine) × (refused ≡ false)))
    → (s j : ℕ) → shares + 1 ≡ s → joined + 1 ≡ j → IfOk all (λ a. HasGathered s j jobs workers (jobs_of (items a)) x)
gathers items mine shares joined jobs theirs workers refused v u x others (Err e) same h served now is s j more joins = tt
gathers items mine shares joined jobs theirs workers refused v u x (Err e) (Ok a) same h served now is s j more joins = absurd is
gathers items mine shares joined jobs theirs workers refused v u x (Ok o) (Ok a) same h served now is s j more joins =
    let fine = subst (λ (p : List Job × Bool). HasTaken p.0 1 u (jobs_of mine) p.1) (λ i. (same i, is.1 i)) served in
    let done = one_more shares joined jobs workers (items o) mine (items a) v u x h fine is.0 now in
    subst (λ (p : ℕ × ℕ). HasGathered p.0 p.1 jobs workers (jobs_of (items a)) x) (λ i. (more i, joins i)) done
