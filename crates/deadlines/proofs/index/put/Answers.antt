use Rattle.std.proofs.Common.{◌≡◌, true, false, not, ap, sym, ◌∙◌}
use Rattle.std.specs.FinSet as set
use Rattle.deadlines.specs.Timers.{TimerSet}
use Rattle.deadlines.specs.Index.{has}
use Rattle.deadlines.proofs.SetLemmas.{has_insert, turned, unchanged, undone}
use Rattle.deadlines.proofs.index.put.Goals as goal

pub returns-in-Ok-clause-index : goal.returns-in-Ok-clause-index
returns-in-Ok-clause-index c = λ t. ap (λ (s : TimerSet). has s t) c.in_ok-is_new.ensures.ok ∙ has_insert c.args.by_deadline.now c.args.timer t

pub returns-then-is_new-clause-err_index : goal.returns-then-is_new-clause-err_index
returns-then-is_new-clause-err_index c = λ t.
    let new : not (has c.args.by_deadline.now c.args.timer) ≡ true = sym c.in_ok-is_new.ensures.is_new ∙ c.if-is_new.true in
    ap (λ (s : TimerSet). has s t) (c.remove.ensures ∙ ap (λ (s : TimerSet). set.remove s c.args.timer) c.in_ok-is_new.ensures.ok
    ∙ undone c.args.by_deadline.now c.args.timer (turned _ _ new))

pub returns-else-is_new-clause-err_index : goal.returns-else-is_new-clause-err_index
returns-else-is_new-clause-err_index c = λ t.
    let old : not (has c.args.by_deadline.now c.args.timer) ≡ false = sym c.in_ok-is_new.ensures.is_new ∙ c.if-is_new.false in
    ap (λ (s : TimerSet). has s t) (c.in_ok-is_new.ensures.ok ∙ unchanged c.args.by_deadline.now c.args.timer (turned _ _ old))
