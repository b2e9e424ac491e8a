use Rattle.std.proofs.Common.{sym, ap, ◌∙◌}
use Rattle.std.specs.FinMap as finite
use Rattle.std.specs.FinSet as set
use Rattle.hlr_types.specs.Orders.{octets_cmp}
use Rattle.deadlines.specs.Index.{has}
use Rattle.deadlines.specs.Timers.{TimerSet, timer_cmp}
use Rattle.csl.specs.Tables.{InvocationLists, has_timer, invocations_at, list_in}
use Rattle.csl.proofs.invocations.Invocations.new.Goals as goal

pub invariant_of-result : goal.invariant_of-result
invariant_of-result c = λ t.
    ap (λ (s : TimerSet). has s t) c.new-2.ensures ∙ set.contains-empty timer_cmp t
    ∙ sym (ap (λ (l : InvocationLists). has_timer (invocations_at l t.invocation.id) t.invocation.invoke t.deadline) c.new.ensures
    ∙ ap (λ o. has_timer (list_in o) t.invocation.invoke t.deadline) (finite.get-empty octets_cmp t.invocation.id))
