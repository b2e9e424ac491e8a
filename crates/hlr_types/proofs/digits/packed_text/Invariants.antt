use Rattle.std.proofs.Common.{◌≡◌, ◌-◌, map, take}
use Rattle.hlr_types.specs.Words.{packed}
use Rattle.hlr_types.proofs.digits.packed_text.Given as goal

abbrev pub invariant-loop-octet : goal.invariant-loop-octet
invariant-loop-octet l = l.number ≡ packed l.octet-index (take l.octet-index (map (λ b. b - 48) l.text))
