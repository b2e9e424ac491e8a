use Rattle.std.proofs.Common.{◌≡◌, map, take}
use Rattle.audit.specs.Gathered.{opened}
use Rattle.audit.specs.Listing.{open_in}
use Rattle.audit.proofs.gathered.all_dialogues.Given as goal

abbrev pub invariant-loop-shard : goal.invariant-loop-shard
invariant-loop-shard l = map opened l.all.items ≡ open_in (take l.shard-index l.shards)
