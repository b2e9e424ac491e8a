-- Length octets of the definite form (X.690, 8.1.3.3 to 8.1.3.5).
use Rattle.std.specs.Prelude.{◌≡◌, ℕ, ◌+◌, ◌*◌, ◌/◌, ◌%◌, ◌^◌, ◌<◌, ◌≤◌, ◌⊎◌, if◌then◌else◌, List, [], ◌∷◌, length, nat_lt}

-- the number that octets stand for, the most significant first
abbrev pub unsigned : List ℕ → ℕ
unsigned [] = 0
unsigned (octet ∷ octets) = octet * 256 ^ length octets + unsigned octets

-- The short form is the length itself, below 128 (8.1.3.4). The long form is 128 + k and then k octets
-- of length, which need not be the fewest (8.1.3.5, note 2); k is 1 to 4 (profile).
abbrev pub IsLength : List ℕ → ℕ → Type 0
IsLength [] n = ⊥
IsLength (first ∷ octets) n =
    ((first < 128) × (octets ≡ []) × (n ≡ first))
    ⊎ ((1 ≤ length octets) × (length octets ≤ 4) × (first ≡ 128 + length octets) × (n ≡ unsigned octets))

-- the octet that is k octets from the right
abbrev pub eight_bits : ℕ → ℕ → ℕ
eight_bits k n = n / 2 ^ (8 * k) % 2 ^ 8

-- a length below 2^32 in the fewest octets (8.1.3.4, 8.1.3.5)
unfoldable pub length_octets : ℕ → List ℕ
length_octets n =
    let a = eight_bits 3 n in
    let b = eight_bits 2 n in
    let c = eight_bits 1 n in
    let d = eight_bits 0 n in
    if nat_lt n (2 ^ 7) then d ∷ [] else
    if nat_lt n (2 ^ 8) then 129 ∷ d ∷ [] else
    if nat_lt n (2 ^ 16) then 130 ∷ c ∷ d ∷ [] else
    if nat_lt n (2 ^ 24) then 131 ∷ b ∷ c ∷ d ∷ [] else
    132 ∷ a ∷ b ∷ c ∷ d ∷ []
