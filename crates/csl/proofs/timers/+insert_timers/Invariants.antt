use Rattle.std.proofs.Common.{length}
use Rattle.csl.proofs.timers.+insert_timers.Given as goal

abbrev pub decreases-insert_timers : goal.decreases-insert_timers
decreases-insert_timers l = length l.list.now
