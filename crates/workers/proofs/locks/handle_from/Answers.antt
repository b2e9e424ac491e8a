use Rattle.std.proofs.Common.{ap, ◌∙◌, set}
use Rattle.std.proofs.lemmas.List.{set-get_or}
use Rattle.workers.proofs.locks.handle_from.Goals as goal

pub tasks-preserved : goal.tasks-preserved
tasks-preserved g c =
    ap (set c.tasks.tasks c.tasks.place) c.handle_in.ensures ∙ set-get_or c.tasks.tasks c.tasks.place c.index-tasks-place.result ∙ c.tasks.invariant
