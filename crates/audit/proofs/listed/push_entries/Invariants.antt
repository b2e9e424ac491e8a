use Rattle.std.proofs.Common.{◌≡◌, ◌++◌, map, take}
use Rattle.std.specs.List.{flat_map}
use Rattle.std.specs.Prelude.{string_bytes}
use Rattle.audit.specs.Gathered.{placed}
use Rattle.audit.specs.Listing.{placed_text}
use Rattle.audit.proofs.listed.push_entries.Given as goal

abbrev pub invariant-loop-placed : goal.invariant-loop-placed
invariant-loop-placed l = string_bytes l.text ≡ string_bytes l.fn.text ++ flat_map placed_text (map placed (take l.placed-index l.all))
