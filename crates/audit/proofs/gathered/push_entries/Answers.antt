use Rattle.std.proofs.Common.{◌≡◌, ◌<◌, ◌++◌, ◌∷◌, [], List, length, get_or, map, ap, ◌∙◌, rules, arith}
use Rattle.std.proofs.lemmas.List.{map-append}
use Rattle.shardlog.specs.Entries.{raw_entry}
use Rattle.audit.specs.Gathered.{placed}
use Rattle.audit.specs.Listing.{Placed}
use Rattle.audit.proofs.Places.{pushed_entry}
use Rattle.audit.proofs.gathered.push_entries.Goals as goal

pub loop-entry-preserved : goal.loop-entry-preserved
loop-entry-preserved c =
    let lt : c.loop-entry.entry-index < length c.args.entries.now = search rules in
    let is : c.entry-item.result ≡ get_or c.args.entries.now c.loop-entry.entry-index c.entry-item.result = search rules in
    let one : List Placed = record { shard = c.args.shard; position = c.loop-entry.position; entry = raw_entry c.entry-item.result } ∷ [] in
    let put : map placed c.push.new.self.items ≡ map placed c.loop-entry.all.items ++ one = ap (map placed) c.in_ok-push.ensures.items
    ∙ map-append placed c.loop-entry.all.items _ in
    let next = c.loop-entry.invariant.0 in (
      omega (arith, next),
      pushed_entry c.args.shard c.args.entries.now c.loop-entry.entry-index c.loop-entry.position c.entry-item.result
          (map placed c.args.all.now.items) (map placed c.loop-entry.all.items)
          (map placed c.push.new.self.items) next lt is c.loop-entry.invariant.1 put,
    )
