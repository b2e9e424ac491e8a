-- The parts of a batch, and the cuts between them (profile). A cut changes no state, only which entries a listing shows.
use Rattle.std.specs.Prelude.{◌≡◌, ◌≤◌, ◌⊎◌, ℕ, ◌+◌, length, Some, option_map, slice_get}
use Rattle.machine.specs.declared.numbers.TheConstants.{MAX_ENTRIES}
use Rattle.shardlog.specs.declared.keep.Keep.{Keep}
use Rattle.shardlog.specs.declared.keep.Keep.TheVariants.{Entries}
use Rattle.shardlog.specs.Log.{Log, cut_log}
use Rattle.wholenode.specs.Keeping.{NodeKeeps}
use Rattle.wholenode.specs.Nodes.{NodeState}

-- Each journal has room for n more entries.
abbrev pub HasRoom : NodeState → ℕ → Type 0
HasRoom node count = (n : ℕ) (l : Log) → slice_get node.shards n ≡ Some l → length l.entries + count ≤ MAX_ENTRIES

-- The journal of each shard is cut, and nothing else changes.
pub record AreCut (before after : NodeState) : Type 0 where
  pub directory : after.directory ≡ before.directory
  pub each : (n : ℕ) → slice_get after.shards n ≡ option_map cut_log (slice_get before.shards n)

-- If some journal has no room for n more entries, all are cut; otherwise nothing is done.
abbrev pub MakesRoom : NodeState → ℕ → NodeState → Type 0
MakesRoom before count after = (HasRoom before count × (after ≡ before)) ⊎ ((HasRoom before count → ⊥) × AreCut before after)

-- Each shard keeps entries, or none does.
abbrev pub KeepsAs : Keep → NodeState → Type 0
KeepsAs keep node = (n : ℕ) (l : Log) → slice_get node.shards n ≡ Some l → l.keep ≡ keep

-- The register can take n more events: where entries are kept, each journal has room for them.
pub record IsReady (keep : Keep) (node : NodeState) (count : ℕ) : Type 0 where
  pub sound : NodeKeeps node
  pub keeps : KeepsAs keep node
  pub room : keep ≡ Entries → HasRoom node count
