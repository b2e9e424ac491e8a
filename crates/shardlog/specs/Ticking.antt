-- One clock value for several shards, all of them or none.
use Rattle.std.specs.Prelude.{◌≡◌, ℕ, List, [], ◌∷◌, length, Some, slice_get}
use Rattle.machine.specs.declared.numbers.TheConstants.{MAX_ENTRIES}
use Rattle.frames.specs.Octets.{RawClock}
use Rattle.shardlog.specs.declared.entry.Handled.{Handled}
use Rattle.shardlog.specs.declared.fault.ShardFault.{ShardFault}
use Rattle.shardlog.specs.declared.fault.ShardFault.TheVariants.{JournalFull, Memory}
use Rattle.shardlog.specs.declared.keep.Keep.TheVariants.{Entries}
use Rattle.shardlog.specs.Handling.{Handles}
use Rattle.shardlog.specs.Log.{Log, LogKeeps}

-- A shard handles the clock value, as an event of its own.
pub record Ticks (now : ℕ) (old new : Log) : Type 0 where
  pub handled : Handled
  pub handles : Handles old (RawClock old.state.shard now) handled new
  pub keeps : LogKeeps new

-- Each of these shards does, in order.
abbrev pub AreTicked : (now : ℕ) → List Log → List Log → Type 0
AreTicked now [] [] = Unit {0}
AreTicked now (l ∷ ls) (m ∷ ms) = Ticks now l m × AreTicked now ls ms
AreTicked now _ _ = ⊥

-- Why none of them does: one keeps entries, and its journal is full, or memory ran out.
abbrev pub Hinders : List Log → ShardFault → Type 0
Hinders shards JournalFull = (n : ℕ) × (l : Log) × (slice_get shards n ≡ Some l) × (l.keep ≡ Entries) × (length l.entries ≡ MAX_ENTRIES)
Hinders shards Memory = (n : ℕ) × (l : Log) × (slice_get shards n ≡ Some l) × (l.keep ≡ Entries)
Hinders shards _ = ⊥
