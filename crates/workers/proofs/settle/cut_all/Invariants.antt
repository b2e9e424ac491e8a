use Rattle.std.proofs.Common.{◌≡◌, ◌++◌, map, take, drop}
use Rattle.std.specs.Prelude.{All}
use Rattle.shardlog.specs.Log.{LogKeeps, cut_log}
use Rattle.workers.proofs.settle.cut_all.Given as goal

abbrev pub invariant-loop-shard : goal.invariant-loop-shard
invariant-loop-shard l = record {
  cut : take l.shard-index l.shards ++ map cut_log (drop l.shard-index l.shards) ≡ map cut_log l.fn.shards;
  keeps : All LogKeeps (take l.shard-index l.shards);
}
