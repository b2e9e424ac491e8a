-- What is sent consists of octets, and no spelling with definite lengths has fewer.
use Rattle.std.proofs.Common.{◌≤◌, ℕ, ◌<◌, inl, inr, List, [], ◌∷◌, ◌++◌, length, sym, ap, subst, arith, length-append}
use Rattle.std.proofs.lemmas.Bool.{cases_lt}
use Rattle.std.proofs.lemmas.Bool.Decides.{nat_tests}
use Rattle.x690.specs.Identifier.{identifier, leading, number_octets}
use Rattle.x690.specs.Length.{length_octets}
use Rattle.octets.specs.Octets.{AreOctets}
use Rattle.x690.specs.Tree.{Tree, Trees, Primitive, Constructed, Empty, More, HasOctets, AllHaveOctets}
use Rattle.x690.specs.Spelling.{AllSpellDefinitely, Definite, definite, enc, enc_all}
use Rattle.x690.specs.Laws.{FewestOctets, EncIsOctets}
use Rattle.x690.specs.declared.Tag.{Tag}
use Rattle.x690.proofs.Identifiers.{class_bits-bound, constructed_bit-bound, identifier-small, identifier-large}
use Rattle.x690.proofs.Lengths.{length_octets-least}

-- ---- octets

pub AreOctets-append : (a b : List ℕ) → AreOctets a → AreOctets b → AreOctets (a ++ b)
AreOctets-append [] b p q = q
AreOctets-append (x ∷ a) b p q = (p.0, AreOctets-append a b p.1 q)

pub AreOctets-front : (a b : List ℕ) → AreOctets (a ++ b) → AreOctets a
AreOctets-front [] b p = tt
AreOctets-front (x ∷ a) b p = (p.0, AreOctets-front a b p.1)

pub AreOctets-back : (a b : List ℕ) → AreOctets (a ++ b) → AreOctets b
AreOctets-back [] b p = p
AreOctets-back (x ∷ a) b p = AreOctets-back a b p.1

number_octets-octets : (n : ℕ) → AreOctets (number_octets n)
unfolding number_octets
number_octets-octets n = grind (arith, nat_tests)

leading-octet : (tag : Tag) (low : ℕ) → low < 32 → leading tag low < 256
leading-octet tag low h =
    let a = class_bits-bound tag.class in
    let b = constructed_bit-bound tag.constructed in
    omega arith

identifier-octets : (tag : Tag) → AreOctets (identifier tag)
identifier-octets tag = elim (cases_lt tag.number 31) [
  | inl p ↦ subst AreOctets (sym (identifier-small tag p)) (leading-octet tag tag.number (omega arith), tt)
  | inr p ↦ subst AreOctets (sym (identifier-large tag p)) (leading-octet tag 31 (omega arith), number_octets-octets tag.number)
]

length_octets-octets : (n : ℕ) → AreOctets (length_octets n)
unfolding length_octets
length_octets-octets n = grind (arith, nat_tests)

definite-octets : (tag : Tag) (contents : List ℕ) → AreOctets contents → AreOctets (definite tag contents)
definite-octets tag contents p =
    AreOctets-append (identifier tag) _ (identifier-octets tag) (AreOctets-append (length_octets (length contents)) contents
    (length_octets-octets (length contents)) p)

mutual
  enc-octets : (t : Tree) → HasOctets t → AreOctets (enc t)
  enc-octets (Primitive tag contents) p = definite-octets tag contents p
  enc-octets (Constructed tag children) p = definite-octets tag (enc_all children) (enc_all-octets children p)

  enc_all-octets : (ts : Trees) → AllHaveOctets ts → AreOctets (enc_all ts)
  enc_all-octets Empty p = tt
  enc_all-octets (More t ts) p = AreOctets-append (enc t) (enc_all ts) (enc-octets t p.0) (enc_all-octets ts p.1)

pub enc_is_octets : EncIsOctets
enc_is_octets t octets = enc-octets t octets

-- ---- the fewest

length_octets-rises : (m n : ℕ) → m ≤ n → length (length_octets m) ≤ length (length_octets n)
unfolding length_octets
length_octets-rises m n h = grind (arith, nat_tests)

definite-fewest : (octets : List ℕ) (tag : Tag) (own contents : List ℕ) → AreOctets octets → length own ≤ length contents → Definite octets tag contents
    → length (definite tag own) ≤ length octets
definite-fewest octets tag own contents are h (size, is, e) =
    let all : AreOctets (identifier tag ++ (size ++ contents)) = subst AreOctets e are in
    let sizes = AreOctets-front size contents (AreOctets-back (identifier tag) (size ++ contents) all) in
    let least = length_octets-least size (length contents) sizes is in
    let rises = length_octets-rises (length own) (length contents) h in
    let a = length-append (identifier tag) (length_octets (length own) ++ own) in
    let b = length-append (length_octets (length own)) own in
    let c = length-append (identifier tag) (size ++ contents) in
    let d = length-append size contents in
    let f = ap length e in
    omega arith

definite-contents : (octets : List ℕ) (tag : Tag) (contents : List ℕ) → AreOctets octets → Definite octets tag contents → AreOctets contents
definite-contents octets tag contents are (size, is, e) =
    AreOctets-back size contents (AreOctets-back (identifier tag) (size ++ contents) (subst AreOctets e are))

mutual
  pub fewest_octets : FewestOctets
  fewest_octets octets (Primitive tag contents) are d = definite-fewest octets tag contents contents are (omega arith) d
  fewest_octets octets (Constructed tag children) are (contents, all, d) =
      definite-fewest octets tag (enc_all children) contents are (fewest_all contents children (definite-contents octets tag contents are d) all) d

  fewest_all : (octets : List ℕ) (ts : Trees) → AreOctets octets → AllSpellDefinitely octets ts → length (enc_all ts) ≤ length octets
  fewest_all octets Empty are e = omega arith
  fewest_all octets (More t ts) are (front, back, spells, all, e) =
      let split : AreOctets (front ++ back) = subst AreOctets e are in
      let a = fewest_octets front t (AreOctets-front front back split) spells in
      let b = fewest_all back ts (AreOctets-back front back split) all in
      let c = length-append (enc t) (enc_all ts) in
      let d = length-append front back in
      let f = ap length e in
      omega arith
