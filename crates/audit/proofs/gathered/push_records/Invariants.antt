use Rattle.std.proofs.Common.{◌≡◌, ◌++◌, map, take}
use Rattle.audit.proofs.gathered.push_records.Given as goal

abbrev pub invariant-loop-found : goal.invariant-loop-found
invariant-loop-found l = map (λ found. found.now) l.all.items ≡ map (λ found. found.now) l.fn.all.items ++ map (λ found. found.now)
    (take l.found-index l.found-items)
