-- One clock value for all shards of a register, or for none.
use Rattle.std.specs.Prelude.{◌≡◌, ℕ, zero, suc, List, [], ◌∷◌}
use Rattle.std.specs.List.{AllByRecursion}
use Rattle.frames.specs.Octets.{RawClock, RawEvent}
use Rattle.shardlog.specs.declared.entry.Handled.{Handled}
use Rattle.shardlog.specs.declared.keep.Keep.TheVariants.{Entries}
use Rattle.shardlog.specs.Log.{Log}
use Rattle.wholenode.specs.declared.fault.Cause.{Cause}
use Rattle.wholenode.specs.declared.fault.Cause.TheVariants.{Memory, JournalFull}
use Rattle.wholenode.specs.Handling.{IsFor, IsFullJournal, Runs, sent_of}
use Rattle.wholenode.specs.Nodes.{NodeState}

-- A clock value of each of so many shards, from shard n on.
abbrev pub clocks_from : (n count now : ℕ) → List RawEvent
clocks_from n zero now = []
clocks_from n (suc count) now = RawClock n now ∷ clocks_from (suc n) count now

-- The sixteen shards handle the clock value, as one event for each of them, in the order of their numbers. They send nothing.
pub record TicksAll (before : NodeState) (now : ℕ) (after : NodeState) : Type 0 where
  pub handled : List Handled
  pub runs : Runs before (clocks_from 0 16 now) handled after
  pub silent : AllByRecursion (λ h. sent_of h ≡ []) handled

-- Why none of them does: the journal of one is full, or one keeps a journal, and memory ran out.
abbrev pub RefusesTicks : NodeState → (now : ℕ) → Cause → Type 0
RefusesTicks node now JournalFull = (n : ℕ) × (l : Log) × IsFor node (RawClock n now) n l × IsFullJournal l
RefusesTicks node now Memory = (n : ℕ) × (l : Log) × IsFor node (RawClock n now) n l × (l.keep ≡ Entries)
RefusesTicks node now _ = ⊥
