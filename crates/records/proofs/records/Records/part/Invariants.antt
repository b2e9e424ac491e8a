use Rattle.std.proofs.Common.{◌≡◌, take}
use Rattle.records.specs.Maps.{part_of}
use Rattle.records.specs.Loaded.{by_imsi}
use Rattle.records.proofs.records.Records.part.Given as goal

abbrev pub invariant-loop-found : goal.invariant-loop-found
invariant-loop-found l = l.part ≡ part_of (by_imsi (take l.found-index l.found-items)) l.shard
