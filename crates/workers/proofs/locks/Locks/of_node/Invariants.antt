use Rattle.std.proofs.Common.{◌≡◌, ◌+◌, ◌≤◌, drop, vec_len}
use Rattle.std.specs.Prelude.{vec_capacity}
use Rattle.std.specs.Vec.Iter.{into_iter_items, into_iter_len}
use Rattle.workers.proofs.locks.Locks.of_node.Given as goal

abbrev pub invariant-loop-shard : goal.invariant-loop-shard
invariant-loop-shard g l = record {
  sixteen : vec_len l.locks + into_iter_len l.shard-iterator ≡ 16;
  buffer : 16 ≤ vec_capacity l.locks;
  left : into_iter_items l.shard-iterator ≡ drop (vec_len l.locks) g.J.Naming.began.shards;
}
