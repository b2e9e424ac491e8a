use Rattle.std.proofs.Common.{◌≡◌, ◌+◌, ◌≤◌, vec_len}
use Rattle.std.specs.Prelude.{vec_capacity}
use Rattle.std.specs.Vec.Iter.{into_iter_len}
use Rattle.workers.proofs.GoingLemmas.{AreInPlace}
use Rattle.workers.proofs.locks.Locks.into_node.Given as goal

abbrev pub invariant-loop-lock : goal.invariant-loop-lock
invariant-loop-lock g l = record {
  sixteen : vec_len l.shards + into_iter_len l.lock-iterator ≡ 16;
  buffer : 16 ≤ vec_capacity l.shards;
  placed : AreInPlace g.J.Naming.began l.shards.items;
}
