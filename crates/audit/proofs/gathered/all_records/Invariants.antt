use Rattle.std.proofs.Common.{◌≡◌, map, take}
use Rattle.audit.specs.Listing.{records_in}
use Rattle.audit.proofs.gathered.all_records.Given as goal

abbrev pub invariant-loop-shard : goal.invariant-loop-shard
invariant-loop-shard l = map (λ found. found.now) l.all.items ≡ records_in (take l.shard-index l.shards)
