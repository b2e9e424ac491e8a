-- The image of a register, and a register that goes on where it was made.
use Rattle.std.specs.Prelude.{◌≡◌, ℕ, List, [], length, map as each, option_map, None, Some, slice_get}
use Rattle.std.specs.FinMap as map
use Rattle.std.specs.List.{AllByRecursion, flat_map}
use Rattle.machine.specs.declared.numbers.TheConstants.{SHARDS}
use Rattle.records.specs.File.{Contents, File}
use Rattle.records.specs.Loaded.{Subscribers, by_imsi, loaded_from}
use Rattle.records.specs.Maps.{RecordMap}
use Rattle.records.specs.Ordered.{AreInOrder}
use Rattle.records.specs.Subscriber.{unmarked}
use Rattle.hlrcore.specs.Shards.{ShardState}
use Rattle.image_lines.specs.Lines.{IsLine}
use Rattle.images.specs.Written.{shard_lines, shard_text}
use Rattle.shardlog.specs.declared.keep.Keep.{Keep}
use Rattle.shardlog.specs.declared.keep.Keep.TheVariants.{Nothing}
use Rattle.shardlog.specs.Log.{Log}
use Rattle.wholenode.specs.Keeping.{NodeKeeps}
use Rattle.wholenode.specs.Nodes.{NodeState}
use Rattle.wholenode.specs.Replaying.{AreAlike}
use Rattle.restoring.specs.Restoring.{Restores}
use Rattle.audit.specs.Saving.{Saves}
use Rattle.embed.specs.Keeping.{KeepsNothing}
use Rattle.embed.specs.Lookups.{record_of}
use Rattle.embed.specs.Registers.{RegisterState}

-- ---- written

-- The text is the image of the shard with this number, and each of its lines can be read again.
pub record IsImageOf (node : NodeState) (n : ℕ) (text : List ℕ) : Type 0 where
  pub shard : Log
  pub stands : slice_get node.shards n ≡ Some shard
  pub text_is : text ≡ shard_text shard.state
  pub lines : AllByRecursion IsLine (shard_lines shard.state)

-- ---- restored

-- The register of a records file with these contents that goes on where this image was made: no frame waits, each journal is empty, and no event
-- has come.
pub record GoesOnFrom (contents : Contents) (keep : Keep) (image : List ℕ) (r : RegisterState) : Type 0 where
  pub restores : Restores (loaded_from contents) keep image r.node
  pub keeps : NodeKeeps r.node
  pub waiting : r.waiting ≡ []
  pub subject : r.subject ≡ None
  pub nothing : keep ≡ Nothing → KeepsNothing r.node

-- The images of all shards, in the order of their numbers.
pub record AreImages (node : NodeState) (texts : List (List ℕ)) : Type 0 where
  pub sixteen : length texts ≡ SHARDS
  pub each : (n : ℕ) (text : List ℕ) → slice_get texts n ≡ Some text → IsImageOf node n text

-- ---- saved

-- What was loaded has the records of the register without the marks of current updates, and its directory and HLR number.
pub record HasRecordsOf (node : NodeState) (loaded : Subscribers) : Type 0 where
  pub directory : loaded.directory ≡ node.directory
  pub records : (imsi : List ℕ) → map.get loaded.records imsi ≡ option_map unmarked (record_of node imsi)
  pub hlr : (n : ℕ) (l : Log) → slice_get node.shards n ≡ Some l → l.state.hlr ≡ loaded.hlr

abbrev pub states_in : NodeState → List ShardState
states_in node = each (λ (l : Log). l.state) node.shards

-- The records are in the order of their IMSIs, each under its own.
pub record AreListed (records : RecordMap) : Type 0 where
  pub order : AreInOrder (map.values records)
  pub whole : by_imsi (map.values records) ≡ records

-- The text is the saved file of the register's records, and a records file from which they are loaded again.
pub record IsSaved (node : NodeState) (text : List ℕ) : Type 0 where
  pub saves : Saves node.shards text
  pub contents : Contents
  pub file : File text contents
  pub has : HasRecordsOf node (loaded_from contents)

-- ---- written and restored

-- It has the states of the other, and no event tells the two apart.
pub record IsAsBefore (before after : NodeState) : Type 0 where
  pub states : states_in after ≡ states_in before
  pub alike : AreAlike before after

-- From its images, one after the other, and its saved file, the register goes on as it was.
abbrev pub IsRestored : RegisterState → Type 0
IsRestored r = (saved : List ℕ) (contents : Contents) (keep : Keep) (texts : List (List ℕ)) (again : RegisterState) → IsSaved r.node saved
    → File saved contents → AreImages r.node texts → GoesOnFrom contents keep (flat_map (λ text. text) texts) again
    → IsAsBefore r.node again.node
