use Rattle.std.proofs.Common.{◌≡◌}
use Rattle.workers.proofs.locks.Locks.handle_free.Given as goal

abbrev pub invariant-tasks : goal.invariant-tasks
invariant-tasks g l = l.tasks ≡ l.fn.tasks
