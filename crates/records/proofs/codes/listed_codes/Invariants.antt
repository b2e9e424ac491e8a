use Rattle.std.proofs.Common.{◌≡◌, ◌+◌, length, [], unwrap_or}
use Rattle.std.specs.Prelude.{option_map}
use Rattle.texts.specs.Lines.{parts}
use Rattle.texts.specs.Lines.{parts_left}
use Rattle.records.specs.Reading.{codes_after}
use Rattle.records.proofs.codes.listed_codes.Given as goal

abbrev pub invariant-loop-rest : goal.invariant-loop-rest
invariant-loop-rest l = codes_after l.codes (parts_left 44 (option_map (λ r. r.now) l.rest)) ≡ codes_after [] (parts 44 l.fn.field)

abbrev pub decreases-loop-rest : goal.decreases-loop-rest
decreases-loop-rest l = unwrap_or (option_map (λ r. length r.now + 1) l.rest) 0
