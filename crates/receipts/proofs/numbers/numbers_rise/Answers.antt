use Rattle.std.proofs.Common.{rules, ◌≡◌, ℕ, ◌+◌, ◌-◌, ◌<◌, map, get_or, sym, ap, ◌∙◌, subst, arith, below_more, true≢false}
use Rattle.std.proofs.lemmas.List.{get_or-map, length-map}
use Rattle.frames.specs.Account.{Job}
use Rattle.receipts.proofs.Rising.{apart_rising}
use Rattle.receipts.proofs.numbers.numbers_rise.Goals as goal

pub returns-then-get-clause-rising : goal.returns-then-get-clause-rising
returns-then-get-clause-rising c = (
  (λ e. absurd (true≢false (sym e))),
  λ h.
      let jobs = c.args.jobs.now in let next = c.loop-next.next in
      let len = length-map jobs (λ (j : Job). j.number) in
      let up = h (next - 1) (omega arith) in
      let a = get_or-map (λ (j : Job). j.number) jobs (next - 1) c.index-jobs-next.result 0 (omega arith) in
      let same : next - 1 + 1 ≡ next = omega arith in
      let b = ap (λ k. get_or (map (λ (j : Job). j.number) jobs) k 0) same
      ∙ get_or-map (λ (j : Job). j.number) jobs next c.index-jobs-next-in-loop-next.result 0 (omega arith) in
      let d : c.get.result ≡ c.index-jobs-next.result.number = search rules in
      let f = ap (λ (j : Job). j.number) c.index-jobs-next.is in
      let g = ap (λ (j : Job). j.number) c.index-jobs-next-in-loop-next.is in
      let e : c.get-in-loop-next.result ≡ c.index-jobs-next-in-loop-next.result.number = search rules in absurd (omega arith),
)

pub loop-next-preserved : goal.loop-next-preserved
loop-next-preserved c = λ k low.
    let jobs = c.args.jobs.now in let next = c.loop-next.next in
    let number : ℕ → ℕ = λ j. get_or (map (λ (j : Job). j.number) jobs) j 0 in
    let a : number (next - 1) ≡ c.get.result =
    let d : c.get.result ≡ c.index-jobs-next.result.number = search rules in
    get_or-map (λ (j : Job). j.number) jobs (next - 1) c.index-jobs-next.result 0 (omega arith) ∙ ap (λ (j : Job). j.number) (sym c.index-jobs-next.is)
    ∙ sym d in
    let b : number next ≡ c.get-in-loop-next.result =
    let e : c.get-in-loop-next.result ≡ c.index-jobs-next-in-loop-next.result.number = search rules in
    get_or-map (λ (j : Job). j.number) jobs next c.index-jobs-next-in-loop-next.result 0 (omega arith)
    ∙ ap (λ (j : Job). j.number) (sym c.index-jobs-next-in-loop-next.is) ∙ sym e in
    let here : number (next - 1) < number next = omega arith in
    let P : ℕ → Type 0 = λ m. number (m - 1) < number m in
    let all : (m : ℕ) → m < next → 0 < m → P m = λ m lt some. let e : m - 1 + 1
    ≡ m = omega arith in subst (λ x. number (m - 1) < number x) e (c.loop-next.invariant (m - 1) (omega arith)) in
    let found : P (k + 1) = below_more (λ m. 0 < m → P m) next all (λ _. here) (k + 1) low (omega arith) in
    let back : k + 1 - 1 ≡ k = omega arith in subst (λ x. number x < number (k + 1)) back found

pub returns-clause-apart : goal.returns-clause-apart
returns-clause-apart c = λ _. apart_rising _ (λ k low. let len = length-map c.args.jobs.now (λ (j : Job). j.number) in c.loop-next.invariant k (omega arith))
