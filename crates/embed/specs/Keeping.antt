-- Registers that keep no journals.
use Rattle.std.specs.Prelude.{◌≡◌, ℕ, Some, slice_get}
use Rattle.shardlog.specs.declared.keep.Keep.TheVariants.{Nothing}
use Rattle.shardlog.specs.Log.{Log}
use Rattle.wholenode.specs.Nodes.{NodeState}

-- No shard keeps entries.
abbrev pub KeepsNothing : NodeState → Type 0
KeepsNothing node = (n : ℕ) (l : Log) → slice_get node.shards n ≡ Some l → l.keep ≡ Nothing
