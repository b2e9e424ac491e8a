-- How the shards of a register go on while a batch is handled.
use Rattle.std.specs.Prelude.{◌≡◌, ℕ, List, ◌++◌, length, map, Some, slice_get}
use Rattle.frames.specs.Octets.{RawEntry, RunOctets}
use Rattle.hlrcore.specs.Shards.{IsSameShard, ShardState, state_of}
use Rattle.shardlog.specs.declared.keep.Keep.TheVariants.{Entries}
use Rattle.shardlog.specs.Log.{Log, LogKeeps}
use Rattle.wholenode.specs.Nodes.{NodeState}

-- These entries follow those of the journal, which begins where it did.
pub record Follow (before : Log) (entries : List RawEntry) (after : Log) : Type 0 where
  pub base_is : after.base ≡ before.base
  pub entries_are : after.entries ≡ before.entries ++ entries

-- A shard has gone on, by events or none: it is the same shard, a run of the machine with these entries leads from its state to the later one,
-- and where it keeps entries they are in its journal.
pub record HasGoneOn (before after : Log) : Type 0 where
  pub keep_is : after.keep ≡ before.keep
  pub same : IsSameShard before.state after.state
  pub entries : List RawEntry
  pub run : RunOctets (state_of before.state) entries (state_of after.state)
  pub kept : before.keep ≡ Entries → Follow before entries after

-- So has each of these shards, place by place.
pub record HaveGoneOn (before after : List Log) : Type 0 where
  pub count : length after ≡ length before
  pub each : (n : ℕ) (l m : Log) → slice_get before n ≡ Some l → slice_get after n ≡ Some m → HasGoneOn l m

-- This shard has gone on from the one with its number of the register.
pub record StandsIn (began : NodeState) (l : Log) : Type 0 where
  pub first : Log
  pub stood : slice_get began.shards l.state.shard ≡ Some first
  pub gone_on : HasGoneOn first l
  pub directory_is : l.state.directory ≡ began.directory
  pub keeps : LogKeeps l

-- the states in which the journals of shards begin, in their order
abbrev pub bases_of : List Log → List ShardState
bases_of shards = map (λ l. l.base) shards

-- Each of these shards keeps entries.
abbrev pub KeepEntries : List Log → Type 0
KeepEntries shards = (n : ℕ) (l : Log) → slice_get shards n ≡ Some l → l.keep ≡ Entries
