use Rattle.std.proofs.Common.{length}
use Rattle.csl.proofs.timers.+remove_timers.Given as goal

abbrev pub decreases-remove_timers : goal.decreases-remove_timers
decreases-remove_timers l = length l.list.now
