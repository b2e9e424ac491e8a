use Rattle.std.proofs.Common.{◌≡◌, map, take}
use Rattle.audit.specs.Gathered.{placed}
use Rattle.audit.specs.Listing.{entries_in}
use Rattle.audit.proofs.gathered.all_entries.Given as goal

abbrev pub invariant-loop-shard : goal.invariant-loop-shard
invariant-loop-shard l = map placed l.all.items ≡ entries_in (take l.shard-index l.shards)
