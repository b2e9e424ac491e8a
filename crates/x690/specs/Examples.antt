-- Worked examples of the encoding rules.
use Rattle.std.specs.Prelude.{◌≡◌, ℕ, ◌^◌, ◌-◌, Bool, true, false, [], ◌∷◌}
use Rattle.x690.specs.Identifier.{IsTag, identifier}
use Rattle.x690.specs.Length.{IsLength, length_octets}
use Rattle.x690.specs.Tree.{Tree, Primitive, element}
use Rattle.x690.specs.Spelling.{Spells, enc}
use Rattle.x690.specs.declared.Class.{Class}
use Rattle.x690.specs.declared.Class.TheVariants.{Universal, Application, ContextSpecific, Private}
use Rattle.x690.specs.declared.Tag.{Tag}

-- a tag
abbrev pub tag_with : Class → Bool → ℕ → Tag
tag_with class constructed number = record { class = class; constructed = constructed; number = number }

-- Identifier octets, of each class and of long numbers (8.1.2).
pub record Identifiers : Type 0 where
  pub integer : identifier (tag_with Universal false 2) ≡ 0x02 ∷ []
  pub sequence : identifier (tag_with Universal true 16) ≡ 0x30 ∷ []
  pub begin : identifier (tag_with Application true 2) ≡ 0x62 ∷ []
  pub user_information : identifier (tag_with ContextSpecific true 30) ≡ 0xBE ∷ []
  pub private : identifier (tag_with Private false 5) ≡ 0xC5 ∷ []
  pub one_octet : identifier (tag_with Application true 31) ≡ 0x7F ∷ 0x1F ∷ []
  pub two_octets : identifier (tag_with Application false 201) ≡ 0x5F ∷ 0x81 ∷ 0x49 ∷ []
  pub three_octets : identifier (tag_with Application false (2 ^ 14)) ≡ 0x5F ∷ 0x81 ∷ 0x80 ∷ 0x00 ∷ []
  pub four_octets : identifier (tag_with Application false (2 ^ 21)) ≡ 0x5F ∷ 0x81 ∷ 0x80 ∷ 0x80 ∷ 0x00 ∷ []
  pub greatest : identifier (tag_with Application false (2 ^ 28 - 1)) ≡ 0x5F ∷ 0xFF ∷ 0xFF ∷ 0xFF ∷ 0x7F ∷ []

-- Which tags an element has (8.1.2, 8.1.5): of four octets at most, and none that ends the contents of an indefinite form.
pub record TagsOfElements : Type 0 where
  pub greatest : IsTag false (tag_with Application false (2 ^ 28 - 1))
  pub no_greater : IsTag false (tag_with Application false (2 ^ 28)) → ⊥
  pub end_mark : IsTag false (tag_with Universal false 0) → ⊥
  pub constructed_zero : IsTag true (tag_with Universal true 0)
  pub other_kind : IsTag false (tag_with Application true 2) → ⊥

-- Length octets (8.1.3): the fewest, and the forms that are read.
pub record Lengths : Type 0 where
  pub none : length_octets 0 ≡ 0x00 ∷ []
  pub short : length_octets 127 ≡ 0x7F ∷ []
  pub one_octet : length_octets 128 ≡ 0x81 ∷ 0x80 ∷ []
  pub most_of_one : length_octets 255 ≡ 0x81 ∷ 0xFF ∷ []
  pub two_octets : length_octets 258 ≡ 0x82 ∷ 0x01 ∷ 0x02 ∷ []
  pub three_octets : length_octets (2 ^ 16) ≡ 0x83 ∷ 0x01 ∷ 0x00 ∷ 0x00 ∷ []
  pub four_octets : length_octets (2 ^ 24) ≡ 0x84 ∷ 0x01 ∷ 0x00 ∷ 0x00 ∷ 0x00 ∷ []
  pub not_the_fewest : IsLength (0x84 ∷ 0x00 ∷ 0x00 ∷ 0x01 ∷ 0x02 ∷ []) 258
  pub five_octets : (n : ℕ) → IsLength (0x85 ∷ 0x00 ∷ 0x00 ∷ 0x00 ∷ 0x00 ∷ 0x06 ∷ []) n → ⊥
  pub indefinite : (n : ℕ) → IsLength (0x80 ∷ []) n → ⊥
  pub octet_after : (n : ℕ) → IsLength (0x06 ∷ 0x06 ∷ []) n → ⊥

-- a SEQUENCE of one INTEGER
abbrev pub one_integer : Tree
one_integer = element (tag_with Universal true 16) (Primitive (tag_with Universal false 2) (5 ∷ []) ∷ [])

-- One tree is spelled in several ways (8.1.3.2), and sent in one.
pub record SpellingsOfOneTree : Type 0 where
  pub sent : enc one_integer ≡ 0x30 ∷ 0x03 ∷ 0x02 ∷ 0x01 ∷ 0x05 ∷ []
  pub definite : Spells (0x30 ∷ 0x03 ∷ 0x02 ∷ 0x01 ∷ 0x05 ∷ []) one_integer
  pub long : Spells (0x30 ∷ 0x81 ∷ 0x04 ∷ 0x02 ∷ 0x81 ∷ 0x01 ∷ 0x05 ∷ []) one_integer
  pub indefinite : Spells (0x30 ∷ 0x80 ∷ 0x02 ∷ 0x01 ∷ 0x05 ∷ 0x00 ∷ 0x00 ∷ []) one_integer
