use Rattle.std.proofs.Common.{◌≡◌, ℕ, ◌-◌, ◌<◌, length, slice_index}
use Rattle.hlr_input.specs.Digits.{octet_at}
use Rattle.hlr_input.proofs.frame_octets.write_octets.Given as goal

abbrev pub invariant-lots : goal.invariant-lots
invariant-lots l = (length l.octets ≡ length l.fn.octets) × ((k : ℕ) → k < l.place → slice_index l.octets k ≡ octet_at l.digits k)

abbrev pub decreases-lots : goal.decreases-lots
decreases-lots l = l.last - l.place
