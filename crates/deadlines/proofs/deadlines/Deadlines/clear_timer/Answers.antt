use Rattle.std.proofs.Common.{ap, sym, ◌∙◌}
use Rattle.std.specs.FinMap as map
use Rattle.deadlines.specs.Timers.{DeadlineMap, TimerSet}
use Rattle.deadlines.specs.Index.{deadline_of, has}
use Rattle.deadlines.proofs.Views.{view_remove}
use Rattle.deadlines.proofs.KeyLemmas.{invocation_total, invocation_exact}
use Rattle.deadlines.proofs.IndexLemmas.{index_clear}
use Rattle.deadlines.proofs.SetLemmas.{has_remove}
use Rattle.deadlines.proofs.deadlines.Deadlines.clear_timer.Goals as goal

pub invariant_of-self : goal.invariant_of-self
invariant_of-self c =
    let i = c.self.inside in
    index_clear (deadline_of i.by_invocation) (deadline_of c.remove.new.self) (has i.by_deadline) (has c.remove-in-Some.new.self)
    c.args.invocation c.in-Some.deadline (sym c.in-Some.ensures.value) c.in-Some.ensures.updates.0 (λ t. ap (λ (s : TimerSet). has s t) c.remove-in-Some.ensures ∙ has_remove i.by_deadline _ t) c.self.invariant

pub returns-in-Some : goal.returns-in-Some
returns-in-Some c =
    view_remove invocation_total invocation_exact c.self.inside.by_invocation.entries c.remove.new.self.entries c.args.invocation c.in-Some.ensures.updates.0
    ∙ ap (λ (m : DeadlineMap). map.remove m c.args.invocation) c.self.view_is

pub returns-in_default : goal.returns-in_default
returns-in_default c =
    view_remove invocation_total invocation_exact c.self.inside.by_invocation.entries c.remove.new.self.entries c.args.invocation c.in_default.ensures.updates.0
    ∙ ap (λ (m : DeadlineMap). map.remove m c.args.invocation) c.self.view_is
