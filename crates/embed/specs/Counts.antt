-- How full a shard is.
use Rattle.std.specs.Prelude.{◌≡◌, ℕ, length, Some, slice_get}
use Rattle.std.specs.FinMap as map
use Rattle.shardlog.specs.Log.{Log}
use Rattle.wholenode.specs.Nodes.{NodeState}

-- In the shard with this number so many dialogues are open, and its journal has so many entries.
pub record IsCountOf (node : NodeState) (n dialogues entries : ℕ) : Type 0 where
  pub shard : Log
  pub stands : slice_get node.shards n ≡ Some shard
  pub dialogues_are : dialogues ≡ map.len shard.state.dialogues.open_ones
  pub entries_are : entries ≡ length shard.entries
