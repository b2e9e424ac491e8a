-- When every worker has stopped, the channel is empty, and what was sent is what was taken.
use Rattle.std.proofs.Common.{◌≡◌, ℕ, zero, suc, ◌<◌, eqb, cond, List, [], ◌∷◌, ◌++◌, map, replicate, sym, refl, ap, ◌∙◌, arith, append-nil}
use Rattle.std.specs.Prelude.{sum_by}
use Rattle.std.specs.List.Sorted.{IsPermutation}
use Rattle.std.proofs.lemmas.List.{map-append}
use Rattle.std.proofs.lemmas.List.Sums.{sum_by-cons, sum_by-append}
use Rattle.frames.specs.Account.{Job}
use Rattle.workers.specs.declared.lot.Lot.{Lot}
use Rattle.workers.specs.declared.rule.Work.{Work}
use Rattle.workers.specs.declared.rule.Work.TheVariants.{Do, Stop}
use Rattle.workers.specs.declared.rule.Hand.{Hand}
use Rattle.workers.specs.Hands.{MatchesAll}
use Rattle.workers.specs.Lots.{jobs_at}
use Rattle.workers.specs.Batch.{HasGathered, batch_of, jobs_in, numbers_of, stops_in}
use Rattle.frames_laws.proofs.Counts.{count, permutation_of_counts}
use Rattle.workers.proofs.Serving.{stops_in-append}

-- a message weighed as a `Stop`, and as a job of number n
abbrev stop_weight : Work → ℕ
stop_weight (Do _) = 0
stop_weight Stop = 1

abbrev job_weight : List Job → ℕ → Work → ℕ
job_weight jobs n (Do lot) = count n (map (λ j. j.number) (jobs_at jobs lot))
job_weight jobs n Stop = 0

stops_in-weight : (ws : List Work) → stops_in ws ≡ sum_by stop_weight ws
stops_in-weight [] = refl
stops_in-weight (Do lot ∷ ws) = let rest = stops_in-weight ws in let a = sum_by-cons stop_weight (Do lot) ws in omega arith
stops_in-weight (Stop ∷ ws) = let rest = stops_in-weight ws in let a = sum_by-cons stop_weight Stop ws in omega arith

count-numbers_of : (jobs : List Job) (n : ℕ) (ws : List Work) → count n (numbers_of jobs ws) ≡ sum_by (job_weight jobs n) ws
count-numbers_of jobs n [] = refl
count-numbers_of jobs n (Do lot ∷ ws) =
    let rest = count-numbers_of jobs n ws in let a = sum_by-cons (job_weight jobs n) (Do lot) ws in
    let b = sum_by-append (λ m. cond (eqb m n) 1 0) (map (λ j. j.number) (jobs_at jobs lot)) (numbers_of jobs ws) in omega arith
count-numbers_of jobs n (Stop ∷ ws) = let rest = count-numbers_of jobs n ws in let a = sum_by-cons (job_weight jobs n) Stop ws in omega arith

numbers_of-batch_of : (jobs : List Job) (lots : List Lot) (stops : ℕ) → numbers_of jobs (batch_of lots stops) ≡ map (λ j. j.number) (jobs_in jobs lots)
numbers_of-batch_of jobs [] zero = refl
numbers_of-batch_of jobs [] (suc stops) = numbers_of-batch_of jobs [] stops
numbers_of-batch_of jobs (l ∷ lots) stops =
    ap (λ ns. map (λ j. j.number) (jobs_at jobs l) ++ ns) (numbers_of-batch_of jobs lots stops)
    ∙ sym (map-append (λ (j : Job). j.number) (jobs_at jobs l) (jobs_in jobs lots))

pub stops_in-batch_of : (lots : List Lot) (stops : ℕ) → stops_in (batch_of lots stops) ≡ stops
stops_in-batch_of [] zero = refl
stops_in-batch_of [] (suc stops) = let rest = stops_in-batch_of [] stops in omega arith
stops_in-batch_of (l ∷ lots) stops = stops_in-batch_of lots stops

-- a batch ends with a `Stop`
stops-last : (stops : ℕ) → replicate (suc stops) Stop ≡ replicate stops Stop ++ Stop ∷ []
stops-last zero = refl
stops-last (suc stops) = ap (λ l. Stop ∷ l) (stops-last stops)

batch-last : (lots : List Lot) (stops : ℕ) → batch_of lots (suc stops) ≡ batch_of lots stops ++ Stop ∷ []
batch-last [] stops = stops-last stops
batch-last (l ∷ lots) stops = ap (λ ws. Do l ∷ ws) (batch-last lots stops)

-- what is left of a list that ends with a `Stop` has one, or is empty
left_empty : (got items front : List Work) → front ++ Stop ∷ [] ≡ got ++ items → stops_in items ≡ 0 → items ≡ []
left_empty [] items front is none = let a = ap stops_in is in let b = stops_in-append front (Stop ∷ []) in absurd (omega arith)
left_empty (g ∷ []) items [] is none = let e : [] ≡ items = cc in sym e
left_empty (g ∷ h ∷ got) items [] is none = cc
left_empty (g ∷ got) items (f ∷ front) is none = left_empty got items front (cc) none

-- with all passes in hand, each number was received as often as it was sent
pub settles : (shares stops : ℕ) (jobs : List Job) (receipts : List ℕ) (items : List Work) (v : Hand) → 0 < stops
    → HasGathered shares stops jobs stops receipts v → MatchesAll v.sent v.taken items → IsPermutation (map (λ j. j.number) jobs) receipts
settles shares zero jobs receipts items v some h matches = absurd (omega arith)
settles shares (suc more) jobs receipts items v some h matches =
    let stops : ℕ = suc more in
    let got = matches.0 in
    let whole : batch_of h.lots stops ≡ got ++ items = ap (λ (u : Hand). u.sent) (sym h.sent) ∙ matches.1 in
    let none : stops_in items ≡ 0 =
    let a = stops_in-batch_of h.lots stops in let b = ap stops_in whole in let c = stops_in-append got items in
    let d = stops_in-weight got in let e = stops_in-weight v.taken in let f = matches.2 stop_weight in let k = h.stopped in omega arith in
    let empty : items ≡ [] = left_empty got items (batch_of h.lots more) (sym (batch-last h.lots more) ∙ whole) none in
    let all : batch_of h.lots stops ≡ got = whole ∙ ap (λ l. got ++ l) empty ∙ append-nil got in
    permutation_of_counts (map (λ j. j.number) jobs) receipts (λ n.
    let a = ap (count n) (ap (map (λ j. j.number)) (sym h.all) ∙ sym (numbers_of-batch_of jobs h.lots stops) ∙ ap (numbers_of jobs) all) in
    let b = count-numbers_of jobs n got in let c = matches.2 (job_weight jobs n) in let d = count-numbers_of jobs n v.taken in
    let e = ap (count n) h.answered in omega arith)
