-- The records of the sixteen shards.
use Rattle.std.specs.Prelude.{◌≡◌, ℕ, ◌<◌, List, length, Some, slice_get, slice_set, slice_index_or}
use Rattle.std.specs.FinMap as map
use Rattle.records.specs.Subscriber.{Subscriber}
use Rattle.records.specs.Maps.{RecordMap, part_of, shard_of}

-- The records of each shard, indexed by its number.
pub record AreParts (all : RecordMap) (parts : List RecordMap) : Type 0 where
  pub sixteen : length parts ≡ 16
  pub own : (shard : ℕ) → shard < 16 → slice_get parts shard ≡ Some (part_of all shard)

-- With one more record, in the part of its shard.
abbrev pub with_one : List RecordMap → Subscriber → List RecordMap
with_one parts s =
    slice_set parts (shard_of s.imsi) (map.insert (slice_index_or parts (shard_of s.imsi) map.empty) s.imsi s)
