use Rattle.std.proofs.Common.{◌≡◌, ◌<◌, ◌≤◌, ◌+◌, ℕ, length}
use Rattle.std.specs.Prelude.{Some, slice_get}
use Rattle.machine.specs.declared.numbers.TheConstants.{MAX_ENTRIES}
use Rattle.shardlog.specs.Log.{Log}
use Rattle.hlr_program.proofs.alone.has_room.Given as goal

abbrev pub invariant-loop-shard : goal.invariant-loop-shard
invariant-loop-shard l = (n : ℕ) (x : Log) → n < l.shard-index → slice_get l.shards n ≡ Some x → length x.entries + l.count ≤ MAX_ENTRIES
