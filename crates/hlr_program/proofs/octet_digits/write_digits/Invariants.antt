use Rattle.std.proofs.Common.{◌≡◌, ◌*◌, ◌-◌, take}
use Rattle.hex.specs.Hex.{encode_upper}
use Rattle.hlr_program.proofs.octet_digits.write_digits.Given as goal

abbrev pub invariant-lots : goal.invariant-lots
invariant-lots l = take (2 * l.place) l.digits ≡ encode_upper (take l.place l.octets)

abbrev pub decreases-lots : goal.decreases-lots
decreases-lots l = l.last - l.place
