use Rattle.machine.specs.Deadlines.{IsFirst}
use Rattle.embed.specs.Lookups.{TimerBelow}
use Rattle.embed.proofs.lookups.first_in.Given as goal

abbrev pub invariant-loop-shard : goal.invariant-loop-shard
invariant-loop-shard l = IsFirst (TimerBelow l.shards l.shard-index) l.first
