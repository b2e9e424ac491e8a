-- A register that goes on where an image was made.
use Rattle.std.specs.Prelude.{◌≡◌, ℕ, List, map as each}
use Rattle.records.specs.Loaded.{Subscribers}
use Rattle.hlrcore.specs.Shards.{ShardState}
use Rattle.images.specs.Beginnings.{beginnings}
use Rattle.images.specs.Texts.{IsImage}
use Rattle.shardlog.specs.declared.keep.Keep.{Keep}
use Rattle.shardlog.specs.Log.{fresh}
use Rattle.wholenode.specs.Nodes.{NodeState}

-- The text is an image from which the shards of a register that begins with these records become these.
abbrev pub IsImageOver : Subscribers → (image : List ℕ) → List ShardState → Type 0
IsImageOver loaded image shards = IsImage image (beginnings loaded) shards

-- The shards of the register are those of the image, each with an empty journal.
pub record Restores (loaded : Subscribers) (keep : Keep) (image : List ℕ) (node : NodeState) : Type 0 where
  pub directory_is : node.directory ≡ loaded.directory
  pub shards : List ShardState
  pub is_image : IsImageOver loaded image shards
  pub shards_are : node.shards ≡ each (fresh keep) shards
