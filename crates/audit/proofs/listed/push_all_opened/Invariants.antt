use Rattle.std.proofs.Common.{◌≡◌, ◌++◌, map, take}
use Rattle.std.specs.List.{flat_map}
use Rattle.std.specs.Prelude.{string_bytes}
use Rattle.audit.specs.Gathered.{opened}
use Rattle.audit.specs.Listing.{open_text}
use Rattle.audit.proofs.listed.push_all_opened.Given as goal

abbrev pub invariant-loop-one : goal.invariant-loop-one
invariant-loop-one l = string_bytes l.text ≡ string_bytes l.fn.text ++ flat_map open_text (map opened (take l.one-index l.all))
