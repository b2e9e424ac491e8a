-- Identifier octets (X.690, 8.1.2). Octets are numbers below 256.
use Rattle.std.specs.Prelude.{◌≡◌, ℕ, ◌+◌, ◌*◌, ◌/◌, ◌%◌, ◌^◌, ◌<◌, Bool, true, false, if◌then◌else◌, List, [], ◌∷◌, nat_lt}
use Rattle.x690.specs.declared.Class.{Class}
use Rattle.x690.specs.declared.Class.TheVariants.{Universal, Application, ContextSpecific, Private}
use Rattle.x690.specs.declared.Tag.{Tag}

-- bits 8 and 7 (8.1.2.2, table 1)
abbrev pub class_bits : Class → ℕ
class_bits Universal = 0
class_bits Application = 1
class_bits ContextSpecific = 2
class_bits Private = 3

-- bit 6 (8.1.2.5)
abbrev pub constructed_bit : Bool → ℕ
constructed_bit false = 0
constructed_bit true = 1

-- the leading octet, with these five low bits
abbrev pub leading : Tag → ℕ → ℕ
leading tag low = 64 * class_bits tag.class + 32 * constructed_bit tag.constructed + low

-- the group of seven bits that is k groups from the right
abbrev pub seven_bits : ℕ → ℕ → ℕ
seven_bits k n = n / 2 ^ (7 * k) % 2 ^ 7

-- A number below 2^35 in groups of seven bits, in the fewest octets, the most significant first; bit 8 is set in all
-- but the last (8.1.2.4.2). The last line is for numbers that a tag can have in code, but no element has.
unfoldable pub number_octets : ℕ → List ℕ
number_octets n =
    let a = 128 + seven_bits 4 n in
    let b = 128 + seven_bits 3 n in
    let c = 128 + seven_bits 2 n in
    let d = 128 + seven_bits 1 n in
    let last = seven_bits 0 n in
    if nat_lt n (2 ^ 7) then last ∷ [] else
    if nat_lt n (2 ^ 14) then d ∷ last ∷ [] else
    if nat_lt n (2 ^ 21) then c ∷ d ∷ last ∷ [] else
    if nat_lt n (2 ^ 28) then b ∷ c ∷ d ∷ last ∷ [] else
    a ∷ b ∷ c ∷ d ∷ last ∷ []

-- Numbers up to 30 are in the leading octet (8.1.2.3); greater ones follow it, and its low bits are 11111 (8.1.2.4).
unfoldable pub identifier : Tag → List ℕ
identifier tag =
    if nat_lt tag.number 31 then leading tag tag.number ∷ [] else
    leading tag 31 ∷ number_octets tag.number

-- The tag of an element, primitive or constructed: its number has at most four octets (profile), and it is not the
-- primitive universal tag 0, which only ends the contents of an indefinite form (end-of-contents octets, 8.1.5).
pub record IsTag (constructed : Bool) (tag : Tag) : Type 0 where
  pub kind : tag.constructed ≡ constructed
  pub small : tag.number < 2 ^ 28
  pub no_end : 0 < leading tag tag.number
