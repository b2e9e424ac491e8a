use Rattle.std.proofs.Common.{ap, sym, ◌∙◌, not}
use Rattle.std.specs.FinSet as set
use Rattle.deadlines.specs.Timers.{TimerSet}
use Rattle.deadlines.specs.Index.{has}
use Rattle.deadlines.proofs.SetLemmas.{has_key, set_insert}
use Rattle.deadlines.proofs.timers.Timers.insert.Goals as goal

pub returns-clause-ok : goal.returns-clause-ok
returns-clause-ok c =
    set_insert c.self.inside.by_deadline c.insert.new.self c.args.timer c.in_ok-insert.ensures.updates.0
    ∙ ap (λ (s : TimerSet). set.insert s c.args.timer) c.self.view_is

pub returns-clause-is_new : goal.returns-clause-is_new
returns-clause-is_new c =
    c.in_ok-insert.ensures.added ∙ ap not (sym (has_key c.self.inside.by_deadline c.args.timer))
    ∙ ap (λ (s : TimerSet). not (has s c.args.timer)) c.self.view_is
