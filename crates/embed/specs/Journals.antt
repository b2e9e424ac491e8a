-- What is listed of a shard, and its journal that is cut off.
use Rattle.std.specs.Prelude.{◌≡◌, ℕ, List, [], ◌∷◌, Some, slice_get}
use Rattle.shardlog.specs.declared.entry.Epoch.{Epoch}
use Rattle.shardlog.specs.Log.{Log}
use Rattle.audit.specs.Listing.{ListsDialogues, ListsJournal}
use Rattle.wholenode.specs.Handling.{Cuts}
use Rattle.wholenode.specs.Keeping.{NodeKeeps}
use Rattle.wholenode.specs.Nodes.{NodeState}
use Rattle.embed.specs.Keeping.{KeepsNothing}
use Rattle.embed.specs.Registers.{RegisterState}

-- The text is a listing of the journal of the shard with this number.
pub record ListsShard (node : NodeState) (n : ℕ) (text : List ℕ) : Type 0 where
  pub shard : Log
  pub stands : slice_get node.shards n ≡ Some shard
  pub lists : ListsJournal (shard ∷ []) text

-- The text is a listing of the open dialogues of the shard with this number.
pub record ListsOpen (node : NodeState) (n : ℕ) (text : List ℕ) : Type 0 where
  pub shard : Log
  pub stands : slice_get node.shards n ≡ Some shard
  pub lists : ListsDialogues (shard ∷ []) text

-- The journal of the shard with this number is cut off and dropped, and nothing else changes.
pub record CutsOff (before : RegisterState) (n : ℕ) (after : RegisterState) : Type 0 where
  pub epoch : Epoch
  pub cuts : Cuts before.node n epoch after.node
  pub keeps : NodeKeeps after.node
  pub waiting : after.waiting ≡ before.waiting
  pub subject : after.subject ≡ before.subject
  pub nothing : KeepsNothing before.node → KeepsNothing after.node
