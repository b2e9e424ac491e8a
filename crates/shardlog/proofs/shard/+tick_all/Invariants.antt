use Rattle.std.proofs.Common.{length}
use Rattle.shardlog.proofs.shard.+tick_all.Given as goal

abbrev pub decreases-tick_all : goal.decreases-tick_all
decreases-tick_all l = length l.shards.now
