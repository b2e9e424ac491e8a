use Rattle.std.proofs.Common.{◌≡◌, ◌++◌, map, take}
use Rattle.shardlog.specs.Entries.{raw_entries}
use Rattle.audit.specs.Gathered.{placed}
use Rattle.audit.specs.Listing.{placed_from}
use Rattle.audit.proofs.gathered.push_entries.Given as goal

abbrev pub invariant-loop-entry : goal.invariant-loop-entry
invariant-loop-entry l =
    (l.position ≡ l.entry-index) × (map placed l.all.items ≡ map placed l.fn.all.items ++ placed_from l.shard 0
    (raw_entries (take l.entry-index l.entries)))
