use Rattle.std.proofs.Common.{◌≡◌, Some, None, false, true, ap, sym, ◌∙◌}
use Rattle.std.specs.Map.{lookup}
use Rattle.std.specs.BTreeMap.{is_at}
use Rattle.std.specs.FinSet as set
use Rattle.deadlines.specs.Timers.{TimerSet, invocation_cmp, timer_cmp}
use Rattle.deadlines.specs.Index.{has}
use Rattle.deadlines.proofs.deadlines.Deadlines.new.Goals as goal

pub invariant_of-result : goal.invariant_of-result
invariant_of-result c = record {
  all = λ t e. let no_deadline : None ≡ Some t.deadline = sym (ap (lookup (is_at (invocation_cmp t.invocation))) c.new.ensures.empty) ∙ e in cc;
  only = λ t h. let no_timer : false ≡ true = sym (ap (λ (s : TimerSet). has s t) c.new-2.ensures ∙ set.contains-empty timer_cmp t) ∙ h in cc;
}
