-- What holds of the definitions, as the contracts of this crate's functions state it.
use Rattle.std.specs.Prelude.{◌≡◌, ℕ, ◌^◌, ◌<◌, ◌≤◌, ◌↔◌, List, ◌++◌, length, Some}
use Rattle.x690.specs.Length.{IsLength, length_octets}
use Rattle.octets.specs.Octets.{AreOctets}
use Rattle.x690.specs.Tree.{Tree, Primitive, element, HasTags, HasOctets}
use Rattle.x690.specs.Reading.{octets_of, children_of}
use Rattle.x690.specs.Spelling.{Spells, SpellsDefinitely, enc}
use Rattle.x690.specs.declared.Tag.{Tag}

-- No spelling is a proper prefix of a spelling, and octets spell at most one tree.
abbrev pub OneTree : Type 0
OneTree =
    (a b x y : List ℕ) (t u : Tree) → Spells a t → Spells b u → a ++ x ≡ b ++ y → (a ≡ b) × (t ≡ u)

-- The spelling that is sent is a spelling of its tree, if its lengths fit in four octets.
abbrev pub EncSpells : Type 0
EncSpells = (t : Tree) → HasTags t → length (enc t) < 2 ^ 32 → Spells (enc t) t

-- The spelling that is sent consists of octets.
abbrev pub EncIsOctets : Type 0
EncIsOctets = (t : Tree) → HasOctets t → AreOctets (enc t)

-- The length octets that are sent are the fewest.
abbrev pub FewestLengthOctets : Type 0
FewestLengthOctets = (size : List ℕ) (n : ℕ) → AreOctets size → IsLength size n → length (length_octets n) ≤ length size

-- No spelling with definite lengths has fewer octets than the one that is sent.
abbrev pub FewestOctets : Type 0
FewestOctets = (octets : List ℕ) (t : Tree) → AreOctets octets → SpellsDefinitely octets t → length (enc t) ≤ length octets

-- A reading under a tag returns an element's contents exactly if the element has that tag.
pub record OneReading : Type 0 where
  pub octets : (tag : Tag) (t : Tree) (contents : List ℕ) → (octets_of tag t ≡ Some contents) ↔ (t ≡ Primitive tag contents)
  pub children : (tag : Tag) (t : Tree) (elements : List Tree) → (children_of tag t ≡ Some elements) ↔ (t ≡ element tag elements)
