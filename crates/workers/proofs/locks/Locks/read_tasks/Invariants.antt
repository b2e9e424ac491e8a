use Rattle.std.proofs.Common.{◌≡◌, take}
use Rattle.workers.proofs.locks.Locks.read_tasks.Given as goal

abbrev pub invariant-loop-job : goal.invariant-loop-job
invariant-loop-job g l = l.tasks.items ≡ take l.job-index l.jobs
