use Rattle.std.proofs.Common.{◌≡◌, ◌++◌, map, take}
use Rattle.std.specs.List.{flat_map}
use Rattle.std.specs.Prelude.{string_bytes}
use Rattle.audit.specs.Lines.{record_text}
use Rattle.audit.proofs.listed.push_records.Given as goal

abbrev pub invariant-loop-found : goal.invariant-loop-found
invariant-loop-found l = string_bytes l.text ≡ string_bytes l.fn.text ++ flat_map record_text
    (map (λ found. found.now) (take l.found-index l.all))
