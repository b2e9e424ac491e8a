-- The invariant of a register's shards.
use Rattle.std.specs.Prelude.{◌≡◌, ℕ, List, length, Some, slice_get}
use Rattle.machine.specs.Holders.{serving}
use Rattle.machine.specs.Keys.{shard_of}
use Rattle.machine.specs.declared.numbers.TheConstants.{SHARDS}
use Rattle.machine.specs.Parts.{part}
use Rattle.machine.specs.Sound.{Sound}
use Rattle.frames.specs.Octets.{RawEntry, RunOctets}
use Rattle.frames.specs.OctetJournals.{AreHolders, MergesOctets}
use Rattle.records.specs.Maps.{DirectoryMap}
use Rattle.hlrcore.specs.Shards.{ShardState, state_of}
use Rattle.shardlog.specs.Log.{Log, LogKeeps}
use Rattle.wholenode.specs.Nodes.{NodeState, bases, journals, states, whole, whole_base}

-- A state of the shard with this number, with this directory and this HLR number.
pub record IsStateAt (n : ℕ) (directory : DirectoryMap) (hlr : List ℕ) (s : ShardState) : Type 0 where
  pub shard_is : s.shard ≡ n
  pub directory_is : s.directory ≡ directory
  pub hlr_is : s.hlr ≡ hlr

-- A shard that has the invariant of a shard with its journal, in such a state.
pub record IsShardAt (n : ℕ) (directory : DirectoryMap) (hlr : List ℕ) (l : Log) : Type 0 where
  pub keeps : LogKeeps l
  pub state_is : IsStateAt n directory hlr l.state

-- There are sixteen shards, indexed by their numbers, with one directory and one HLR number.
pub record AreShards (directory : DirectoryMap) (shards : List Log) : Type 0 where
  pub hlr : List ℕ
  pub count : length shards ≡ SHARDS
  pub each : (n : ℕ) (l : Log) → slice_get shards n ≡ Some l → IsShardAt n directory hlr l

-- There are states of the sixteen shards, indexed by their numbers, with one directory and one HLR number.
pub record AreStates (directory : DirectoryMap) (states : List ShardState) : Type 0 where
  pub hlr : List ℕ
  pub count : length states ≡ SHARDS
  pub each : (n : ℕ) (s : ShardState) → slice_get states n ≡ Some s → IsStateAt n directory hlr s

-- Exactly the serving register, or none, holds the subscriber, by the octets in the journal of the subscriber's shard.
abbrev pub HoldsServing : NodeState → (imsi : List ℕ) → Type 0
HoldsServing node imsi =
    let n = shard_of imsi in
    AreHolders n (bases node.shards n) (journals node.shards n) (states node.shards n) imsi (serving ((whole node.shards).records imsi))

-- Together the shards are one sound state of the machine, each being its part of it; every merge of their journals that keeps
-- the order of each is a run to it; and exactly the serving registers hold subscribers.
pub record NodeKeeps (node : NodeState) : Type 0 where
  pub shards : AreShards node.directory node.shards
  pub sound : Sound (whole node.shards)
  pub parts : (n : ℕ) (l : Log) → slice_get node.shards n ≡ Some l → part (whole node.shards) n ≡ state_of l.state
  pub merged : (merge : List RawEntry) → MergesOctets (journals node.shards) merge
      → RunOctets (whole_base node.shards) merge (whole node.shards)
  pub holders : (imsi : List ℕ) → HoldsServing node imsi

-- Every merge of the journals of sixteen shards is a run from the union of their bases to the union of their states.
abbrev pub JournalsMerge : Type 0
JournalsMerge = (directory : DirectoryMap) (shards : List Log) (merge : List RawEntry) → AreShards directory shards → MergesOctets
    (journals shards) merge
    → RunOctets (whole_base shards) merge (whole shards)
