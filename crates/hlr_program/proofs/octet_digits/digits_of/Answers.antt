use Rattle.std.proofs.Common.{◌≡◌, ℕ, ◌+◌, ◌-◌, ◌*◌, ◌/◌, ◌%◌, ◌<◌, Bool, true, ◌&&◌, nat_eq, [], ◌∷◌, bit_and, slice_index, refl, ◌∙◌, rules}
use Rattle.std.proofs.lemmas.Bool.{agree_below_at, and_parts, eqb-true}
use Rattle.hex.specs.Hex.{encode_upper, encode_with, upper_digits}
use Rattle.hlr_program.proofs.octet_digits.digits_of.Goals as goal

-- what is computed, as a number of two octets
abbrev made : ℕ → ℕ
made octet = (octet % 16 * 4096 + octet) / 16 + 14135 - bit_and (((octet % 16 * 4096 + octet) / 16 + 30326) / 16) 1799

abbrev is_right : ℕ → Bool
is_right octet = nat_eq (made octet % 256) (slice_index upper_digits (octet / 16)) && nat_eq (made octet / 256 % 256) (slice_index upper_digits (octet % 16))

-- it is right for each octet, by computing all of them
made_right : (octet : ℕ) → octet < 256 → made octet % 256 ∷ made octet / 256 % 256 ∷ [] ≡ encode_upper (octet ∷ [])
unfolding encode_with
made_right octet lt =
    let both = and_parts _ _ (agree_below_at is_right (λ _. true) 256 octet refl lt) in
    let first = eqb-true (made octet % 256) (slice_index upper_digits (octet / 16)) both.0 in
    let second = eqb-true (made octet / 256 % 256) (slice_index upper_digits (octet % 16)) both.1 in
    λ i. first i ∷ second i ∷ []

pub returns : goal.returns
returns c =
    let is : c.from-octet.result ≡ c.args.octet = c.from-octet.ensures in
    c.to_le_bytes.ensures ∙ rw is (made_right c.args.octet (search rules))
