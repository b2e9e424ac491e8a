use Rattle.std.proofs.Common.{ap, ◌∙◌}
use Rattle.deadlines.specs.Timers.{DeadlineMap, set_all}
use Rattle.deadlines.specs.Index.{deadline_of, has}
use Rattle.deadlines.proofs.IndexLemmas.{index_kept}
use Rattle.deadlines.proofs.ViewLemmas.{view_all, view_alike, on_ok_then, on_err_then}
use Rattle.deadlines.proofs.deadlines.Deadlines.set_each.Goals as goal

pub invariant_of-self : goal.invariant_of-self
invariant_of-self c =
    let i = c.self.inside in
    index_kept c.put_each.result (deadline_of i.by_invocation) (deadline_of c.put_each.new.by_invocation) (has i.by_deadline) (has c.put_each.new.by_deadline)
    c.put_each.ensures.index c.put_each.ensures.err_map c.put_each.ensures.err_index c.self.invariant

pub returns-clause-ok : goal.returns-clause-ok
returns-clause-ok c =
    on_ok_then c.put_each.result
    (λ h. view_all c.self.inside.by_invocation c.put_each.new.by_invocation c.args.timers.now h
    ∙ ap (λ (m : DeadlineMap). set_all m c.args.timers.now) c.self.view_is)
    c.put_each.ensures.map

pub returns-clause-err : goal.returns-clause-err
returns-clause-err c =
    on_err_then c.put_each.result (λ h. view_alike c.self.inside.by_invocation c.put_each.new.by_invocation h ∙ c.self.view_is) c.put_each.ensures.err_map
