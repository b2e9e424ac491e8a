use Rattle.std.proofs.Common.{◌≡◌}
use Rattle.workers.proofs.locks.handle_from.Given as goal

abbrev pub invariant-tasks : goal.invariant-tasks
invariant-tasks g l = l.tasks ≡ l.fn.tasks
