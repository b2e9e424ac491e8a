-- Octets as two hexadecimal digits each.
use Rattle.std.specs.Prelude.{◌≡◌, ℕ, ◌+◌, ◌*◌, ◌<◌, List, length, slice_index, unwrap_or}
use Rattle.hex.specs.Hex.{hex_digit_value}

-- the value of a digit, and 0 for what is none
abbrev pub value_of : ℕ → ℕ
value_of digit = unwrap_or (hex_digit_value digit) 0

-- the octet of the two digits at its place
abbrev pub octet_at : (digits : List ℕ) → (place : ℕ) → ℕ
octet_at digits place = value_of (slice_index digits (2 * place)) * 16 + value_of (slice_index digits (2 * place + 1))

-- Each of these octets is that of its two digits, and no digit is left.
pub record AreOctetsOf (digits octets : List ℕ) : Type 0 where
  pub half : length digits ≡ 2 * length octets
  pub each : (k : ℕ) → k < length octets → slice_index octets k ≡ octet_at digits k
