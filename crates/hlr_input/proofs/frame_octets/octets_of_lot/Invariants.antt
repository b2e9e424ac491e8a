use Rattle.std.proofs.Common.{◌≡◌, ℕ, ◌<◌, length, slice_index}
use Rattle.hlr_input.specs.Digits.{octet_at, value_of}
use Rattle.hlr_input.proofs.frame_octets.octets_of_lot.Given as goal

abbrev pub invariant-values : goal.invariant-values
invariant-values l = (length l.values ≡ 32) × ((k : ℕ) → k < l.place → slice_index l.values k ≡ value_of (slice_index l.digits k))

abbrev pub invariant-octets : goal.invariant-octets
invariant-octets l = (length l.octets ≡ 16) × ((k : ℕ) → k < l.place → slice_index l.octets k ≡ octet_at l.digits k)
