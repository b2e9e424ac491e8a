-- The shards at the beginning.
use Rattle.std.specs.Prelude.{◌≡◌, ℕ, List, length, map as each, Some, slice_get}
use Rattle.machine.specs.declared.numbers.TheConstants.{SHARDS}
use Rattle.machine.specs.Opening.{opening}
use Rattle.machine.specs.Parts.{part}
use Rattle.records.specs.Loaded.{Subscribers}
use Rattle.records.specs.Maps.{DirectoryMap, RecordMap, part_of}
use Rattle.hlrcore.specs.Shards.{IsOpening, ShardState, directory_of, records_of, state_of}
use Rattle.shardlog.specs.declared.keep.Keep.{Keep}
use Rattle.shardlog.specs.Log.{Log, LogKeeps, fresh}
use Rattle.wholenode.specs.Nodes.{NodeState, whole}

-- A shard begins, at the start with this number, with these records, no open dialogue, its clock at 0, and no entry, and keeps entries or none. If the records are its
-- part of all records, its state is its part of the state with which the register begins.
pub record Opens (start n : ℕ) (records : RecordMap) (directory : DirectoryMap) (hlr : List ℕ) (keep : Keep) (l : Log) : Type 0 where
  pub state : ShardState
  pub begins : l ≡ fresh keep state
  pub opens_as : IsOpening start n records directory hlr state
  pub part_is : (all : RecordMap) → records ≡ part_of all n
      → state_of state ≡ part (opening (records_of all) (directory_of directory) hlr) n
  pub keeps : LogKeeps l

-- The state of a shard that begins so.
pub record Begins (start n : ℕ) (records : RecordMap) (directory : DirectoryMap) (hlr : List ℕ) (s : ShardState) : Type 0 where
  pub opens_as : IsOpening start n records directory hlr s
  pub own : s.dialogues.shard ≡ n
  pub part_is : (all : RecordMap) → records ≡ part_of all n
      → state_of s ≡ part (opening (records_of all) (directory_of directory) hlr) n

-- The states of the first `count` shards, when the records are loaded, indexed by their numbers.
pub record AreBeginning (loaded : Subscribers) (start count : ℕ) (states : List ShardState) : Type 0 where
  pub length_is : length states ≡ count
  pub each : (n : ℕ) (s : ShardState) → slice_get states n ≡ Some s
      → Begins start n (part_of loaded.records n) loaded.directory loaded.hlr s

-- The register has this directory, and these states, each with an empty journal.
pub record IsNodeOf (directory : DirectoryMap) (keep : Keep) (states : List ShardState) (node : NodeState) : Type 0 where
  pub directory_is : node.directory ≡ directory
  pub shards_are : node.shards ≡ each (fresh keep) states

-- The shard with this number, when the records are loaded.
abbrev pub OpensWith : Subscribers → Keep → (start n : ℕ) → Log → Type 0
OpensWith loaded keep start n l = Opens start n (part_of loaded.records n) loaded.directory loaded.hlr keep l

-- The first `count` shards, indexed by their numbers.
pub record AreOpening (loaded : Subscribers) (keep : Keep) (start count : ℕ) (shards : List Log) : Type 0 where
  pub length_is : length shards ≡ count
  pub each : (n : ℕ) (l : Log) → slice_get shards n ≡ Some l → OpensWith loaded keep start n l

-- Together the shards are the state with which the register begins: the loaded records, no dialogue, and each clock at 0.
pub record BeginsWith (loaded : Subscribers) (keep : Keep) (start : ℕ) (node : NodeState) : Type 0 where
  pub directory_is : node.directory ≡ loaded.directory
  pub shards_are : AreOpening loaded keep start SHARDS node.shards
  pub whole_is : whole node.shards ≡ opening (records_of loaded.records) (directory_of loaded.directory) loaded.hlr
