use Rattle.std.proofs.Common.{◌≡◌, ◌*◌, ◌++◌, length, take, drop}
use Rattle.hex.specs.Hex.{encode_upper}
use Rattle.hlr_program.proofs.octet_digits.digits_of_lot.Given as goal

abbrev pub invariant-octets : goal.invariant-octets
invariant-octets l = (length l.digits ≡ 32) × (take (2 * l.place) l.digits ++ encode_upper (drop l.place l.octets) ≡ encode_upper l.octets)
