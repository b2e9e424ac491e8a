-- The shards of a register as they begin, before an image is read.
use Rattle.std.specs.Prelude.{ℕ, List, map as each}
use Rattle.std.specs.FinMap as map
use Rattle.std.specs.List.{range_with_len}
use Rattle.machine.specs.declared.numbers.TheConstants.{SHARDS}
use Rattle.records.specs.Loaded.{Subscribers}
use Rattle.records.specs.Maps.{part_of}
use Rattle.tidalloc.specs.LiveIds.{unused}
use Rattle.hlrcore.specs.Ids.{first_generation}
use Rattle.hlrcore.specs.Shards.{ShardState}

-- The shard with this number of the records that were loaded: no dialogue is open, no id was used, and its clock is at 0.
abbrev pub beginning : Subscribers → ℕ → ShardState
beginning loaded n = record {
  shard = n;
  clock = 0;
  records = part_of loaded.records n;
  dialogues = record { shard = n; supply = unused (first_generation 0); open_ones = map.empty };
  directory = loaded.directory;
  hlr = loaded.hlr;
}

-- All sixteen, in order.
abbrev pub beginnings : Subscribers → List ShardState
beginnings loaded = each (beginning loaded) (range_with_len 0 SHARDS)
