use Rattle.std.proofs.Common.{ap, ◌∙◌}
use Rattle.std.specs.FinSet as set
use Rattle.deadlines.specs.Timers.{TimerSet}
use Rattle.deadlines.proofs.SetLemmas.{set_remove}
use Rattle.deadlines.proofs.timers.Timers.remove.Goals as goal

pub returns : goal.returns
returns c =
    set_remove c.self.inside.by_deadline c.remove.new.self c.args.timer.now c.remove.ensures.updates.0
    ∙ ap (λ (s : TimerSet). set.remove s c.args.timer.now) c.self.view_is
