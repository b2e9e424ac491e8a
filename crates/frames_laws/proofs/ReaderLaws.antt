-- What is read is spelled, and what is spelled is read.
use Rattle.std.proofs.Common.{◌≡◌, ℕ, zero, suc, ◌+◌, ◌-◌, ◌*◌, ◌/◌, ◌%◌, ◌^◌, ◌<◌, ◌≤◌, Bool, true, false, cond, if◌then◌else◌, ◌&&◌, eqb, ltb, leb, List, [], ◌∷◌, ◌++◌, length, drop, refl, ap, sym, ◌∙◌, subst, inl, inr, arith, append-nil, append_assoc, length-append, take-append-drop, length-take-le}
use Rattle.std.specs.Prelude.{Option, Some, None, option_and_then, option_map}
use Rattle.std.proofs.lemmas.Bool.{cases_lt, eqb-true, eq-eqb, ltb-true, lt-ltb, le-ltb, leb-true, le-leb}
use Rattle.std.proofs.lemmas.Bool.Decides.{nat_tests}
use Rattle.std.proofs.lemmas.List.{take_at, drop_at}
use Rattle.x690.specs.declared.Class.{Class}
use Rattle.x690.specs.declared.Class.TheVariants.{Universal, Application, ContextSpecific, Private}
use Rattle.x690.specs.declared.Tag.{Tag}
use Rattle.x690.specs.Identifier.{IsTag, class_bits, constructed_bit, leading, number_octets, identifier}
use Rattle.x690.specs.Length.{IsLength, unsigned}
use Rattle.x690.specs.Tree.{Tree, Trees, Primitive, Constructed, Empty, More}
use Rattle.x690.specs.Spelling.{Spells, SpellsAll}
use Rattle.x690.proofs.Identifiers.{constructed_bit-bound, tag-inj, identifier-small, identifier-large, identifier-length}
use Rattle.x690.proofs.Lengths.{IsLength-not-128, IsLength-length}
use Rattle.x690.proofs.Readings.{both_true, bind_some, map_some, some_is}
use Rattle.x690.proofs.Spellings.{IsEnd, Spells-no_end}
use Rattle.frames.specs.Choices.{◌>>=◌, when}
use Rattle.frames_laws.specs.Reader.{after, parted, class_in, number_in, tag_in, identified, read_tag, is_long, read_long_length, read_length, read_contents, at_end, whole, read_primitive, read_constructed, read_element, read_elements, read_tree}

-- ---- steps

pub when_some : {A : Type 0} (b : Bool) (a x : A) → when b a ≡ Some x → (b ≡ true) × (a ≡ x)
when_some true a x e = (refl, some_is e)
when_some false a x e = absurd cc

pub when_true : {A : Type 0} (b : Bool) (a : A) → b ≡ true → when b a ≡ Some a
when_true true a e = refl
when_true false a e = absurd cc

after-some : (front octets rest : List ℕ) → after front octets ≡ Some rest → octets ≡ front ++ rest
after-some [] octets rest e = some_is e
after-some (first ∷ front) [] rest e = absurd cc
after-some (first ∷ front) (octet ∷ octets) rest e = go (after-some front octets rest) (eqb first octet) refl e
  where
    go : (after front octets ≡ Some rest → octets ≡ front ++ rest) → (b : Bool) → eqb first octet ≡ b → cond b (after front octets) None ≡ Some rest
        → octet ∷ octets ≡ first ∷ (front ++ rest)
    go tail true is e = let same : first ≡ octet = eqb-true first octet is in let t = tail e in cc
    go tail false is e = absurd cc

after-of : (front rest : List ℕ) → after front (front ++ rest) ≡ Some rest
after-of [] rest = refl
after-of (first ∷ front) rest = ap (λ b. cond b (after front (front ++ rest)) None) (eq-eqb first first refl) ∙ after-of front rest

parted-some : (count : ℕ) (octets : List ℕ) (x : List ℕ × List ℕ) → parted count octets ≡ Some x → (length x.0 ≡ count) × (octets ≡ x.0 ++ x.1)
parted-some count octets x e =
    let (enough, same) = when_some (leb count (length octets)) _ x e in
    subst (λ (y : List ℕ × List ℕ). (length y.0 ≡ count) × (octets ≡ y.0 ++ y.1)) same
    (length-take-le count octets (leb-true _ _ enough), sym (take-append-drop count octets))

parted-of : (front rest : List ℕ) (count : ℕ) → length front ≡ count → parted count (front ++ rest) ≡ Some (front, rest)
parted-of front rest count e =
    let enough : leb count (length (front ++ rest)) ≡ true = le-leb _ _ (omega (arith, length-append front rest)) in
    let a = take_at front rest count e in
    let b = drop_at front rest count e in
    when_true _ _ enough ∙ ap (λ (x : List ℕ). Some (x, drop count (front ++ rest))) a ∙ ap (λ (x : List ℕ). Some (front, x)) b

whole-some : {A : Type 0} (x : A × List ℕ) (a : A) → whole x ≡ Some a → x ≡ (a, [])
whole-some (b, []) a e = ap (λ c. (c, [])) (some_is e)
whole-some (b, octet ∷ octets) a e = absurd cc

-- ---- identifier octets

identified-some : (tag : Tag) (octets : List ℕ) (x : Tag × List ℕ) → identified tag octets ≡ Some x
    → IsTag x.0.constructed x.0 × (octets ≡ identifier x.0 ++ x.1)
identified-some tag octets x e =
    let (rest, is, f) = bind_some (after (identifier tag) octets) _ x e in
    let (fine, same) = when_some (ltb tag.number (2 ^ 28) && ltb 0 (leading tag tag.number)) (tag, rest) x f in
    let (small, no_end) = both_true (ltb tag.number (2 ^ 28)) _ fine in
    subst (λ (y : Tag × List ℕ). IsTag y.0.constructed y.0 × (octets ≡ identifier y.0 ++ y.1)) same
    (record { kind = refl; small = ltb-true _ _ small; no_end = ltb-true _ _ no_end }, after-some (identifier tag) octets rest is)

read_tag-some : (octets : List ℕ) (x : Tag × List ℕ) → read_tag octets ≡ Some x → IsTag x.0.constructed x.0 × (octets ≡ identifier x.0 ++ x.1)
read_tag-some [] x e = absurd cc
read_tag-some (octet ∷ octets) x e = identified-some (tag_in octet octets) (octet ∷ octets) x e

class_in-leading : (class : Class) (bit low : ℕ) → bit < 2 → low < 32 → class_in (64 * class_bits class + 32 * bit + low) ≡ class
class_in-leading Universal bit low h k = grind (arith, nat_tests)
class_in-leading Application bit low h k = grind (arith, nat_tests)
class_in-leading ContextSpecific bit low h k = grind (arith, nat_tests)
class_in-leading Private bit low h k = grind (arith, nat_tests)

constructed-leading : (n low : ℕ) (c : Bool) → low < 32 → eqb ((64 * n + 32 * constructed_bit c + low) / 32 % 2) 1 ≡ c
constructed-leading n low true h = grind (arith, nat_tests)
constructed-leading n low false h = grind (arith, nat_tests)

low-leading : (n bit low : ℕ) → bit < 2 → low < 32 → (64 * n + 32 * bit + low) % 32 ≡ low
low-leading n bit low h k = omega arith

number_in-octets : (n : ℕ) (rest : List ℕ) → n < 2 ^ 28 → number_in 0 (number_octets n ++ rest) ≡ n
unfolding number_octets
number_in-octets n rest h = grind (arith, nat_tests)

number-leading : (tag : Tag) (low : ℕ) (octets : List ℕ) → low < 32 → (if_31 : Bool) → eqb low 31 ≡ if_31
    → (tag_in (leading tag low) octets).number ≡ cond if_31 (number_in 0 octets) low
number-leading tag low octets h b e =
    let r = low-leading (class_bits tag.class) (constructed_bit tag.constructed) low (constructed_bit-bound tag.constructed) h in
    ap (λ n. cond (eqb n 31) (number_in 0 octets) n) r ∙ ap (λ c. cond c (number_in 0 octets) low) e

tag_in-leading : (tag : Tag) (low : ℕ) (octets : List ℕ) → low < 32 → (tag_in (leading tag low) octets).number ≡ tag.number
    → tag_in (leading tag low) octets ≡ tag
tag_in-leading tag low octets h e =
    tag-inj (tag_in (leading tag low) octets) tag
    (class_in-leading tag.class (constructed_bit tag.constructed) low (constructed_bit-bound tag.constructed) h)
    (constructed-leading (class_bits tag.class) low tag.constructed h) e

identified-of : (c : Bool) (tag : Tag) (rest : List ℕ) → IsTag c tag → identified tag (identifier tag ++ rest) ≡ Some (tag, rest)
identified-of c tag rest is =
    let fine : ltb tag.number (2 ^ 28) && ltb 0 (leading tag tag.number) ≡ true = rw (lt-ltb _ _ is.small, lt-ltb _ _ is.no_end) refl in
    ap (option_and_then (λ (o : List ℕ). when (ltb tag.number (2 ^ 28) && ltb 0 (leading tag tag.number)) (tag, o))) (after-of (identifier tag) rest)
    ∙ when_true _ (tag, rest) fine

read_tag-first : (c : Bool) (tag : Tag) (octet : ℕ) (octets rest : List ℕ) → IsTag c tag → octet ∷ octets ≡ identifier tag ++ rest → tag_in octet octets ≡ tag
    → read_tag (identifier tag ++ rest) ≡ Some (tag, rest)
read_tag-first c tag octet octets rest is e same =
    ap read_tag (sym e) ∙ ap (λ t. identified t (octet ∷ octets)) same ∙ ap (identified tag) e ∙ identified-of c tag rest is

read_tag-of : (c : Bool) (tag : Tag) (rest : List ℕ) → IsTag c tag → read_tag (identifier tag ++ rest) ≡ Some (tag, rest)
read_tag-of c tag rest is = elim (cases_lt tag.number 31) [
  | inl p ↦ (let not_31 : eqb tag.number 31 ≡ false = grind (arith, nat_tests) in
      read_tag-first c tag (leading tag tag.number) rest rest is (ap (λ (o : List ℕ). o ++ rest) (sym (identifier-small tag p)))
      (tag_in-leading tag tag.number rest (omega arith) (number-leading tag tag.number rest (omega arith) false not_31)))
  | inr p ↦ (let number : (tag_in (leading tag 31) (number_octets tag.number ++ rest)).number ≡ tag.number =
      number-leading tag 31 (number_octets tag.number ++ rest) (omega arith) true refl ∙ number_in-octets tag.number rest is.small in
      read_tag-first c tag (leading tag 31) (number_octets tag.number ++ rest) rest is (ap (λ (o : List ℕ). o ++ rest) (sym (identifier-large tag p)))
      (tag_in-leading tag 31 (number_octets tag.number ++ rest) (omega arith) number))
]

-- ---- length octets and contents

abbrev Sized : List ℕ → ℕ × List ℕ → Type 0
Sized octets x = (size : List ℕ) × IsLength size x.0 × (octets ≡ size ++ x.1)

long-is : (first : ℕ) → is_long first ≡ true → (129 ≤ first) × (first ≤ 132)
long-is first e = (grind (arith, nat_tests), grind (arith, nat_tests))

long-of : (first : ℕ) → 129 ≤ first → first ≤ 132 → is_long first ≡ true
long-of first h k = rw (le-leb _ _ h, le-leb _ _ k) refl

read_long_length-some : (first : ℕ) (octets : List ℕ) (x : ℕ × List ℕ) → read_long_length first octets ≡ Some x → Sized (first ∷ octets) x
read_long_length-some first octets x e =
    let (s, is, f) = bind_some (parted (first - 128) octets) _ x e in
    let (long, same) = when_some (is_long first) (unsigned s.0, s.1) x f in
    let (least, most) = long-is first long in
    let (count, split) = parted-some (first - 128) octets s is in
    subst (Sized (first ∷ octets)) same (first ∷ s.0, inr (omega arith, omega arith, omega arith, refl), ap (λ (o : List ℕ). first ∷ o) split)

read_length-some : (octets : List ℕ) (x : ℕ × List ℕ) → read_length octets ≡ Some x → Sized octets x
read_length-some [] x e = absurd cc
read_length-some (first ∷ octets) x e = go (ltb first 128) refl e
  where
    go : (b : Bool) → ltb first 128 ≡ b → cond b (Some (first, octets)) (read_long_length first octets) ≡ Some x → Sized (first ∷ octets) x
    go true small e = subst (Sized (first ∷ octets)) (some_is e) (first ∷ [], inl (ltb-true _ _ small, refl, refl), refl)
    go false large e = read_long_length-some first octets x e

read_length-of : (size : List ℕ) (n : ℕ) (rest : List ℕ) → IsLength size n → read_length (size ++ rest) ≡ Some (n, rest)
read_length-of [] n rest l = absurd l
read_length-of (first ∷ octets) n rest (inl (small, empty, same)) =
    rw (lt-ltb first 128 small) (ap (λ (o : List ℕ). Some (first, o ++ rest)) empty ∙ ap (λ m. Some (m, rest)) (sym same))
read_length-of (first ∷ octets) n rest (inr (some, most, is, same)) =
    let parts = parted-of octets rest (first - 128) (omega arith) in
    rw (le-ltb first 128 (omega arith), parts) (when_true _ _ (long-of first (omega arith) (omega arith)) ∙ ap (λ m. Some (m, rest)) (sym same))

read_contents-some : (octets : List ℕ) (x : List ℕ × List ℕ) → read_contents octets ≡ Some x
    → (size : List ℕ) × IsLength size (length x.0) × (octets ≡ size ++ (x.0 ++ x.1))
read_contents-some octets x e =
    let (n, is, f) = bind_some (read_length octets) _ x e in
    let (size, l, split) = read_length-some octets n is in
    let (count, parts) = parted-some n.0 n.1 x f in
    (size, subst (IsLength size) (sym count) l, split ∙ ap (λ (o : List ℕ). size ++ o) parts)

read_contents-of : (size contents rest : List ℕ) → IsLength size (length contents) → read_contents (size ++ (contents ++ rest)) ≡ Some (contents, rest)
read_contents-of size contents rest l =
    ap (option_and_then (λ (s : ℕ × List ℕ). parted s.0 s.1)) (read_length-of size (length contents) (contents ++ rest) l)
    ∙ parted-of contents rest (length contents) refl

-- ---- what is read is spelled

abbrev Begins : List ℕ → Tree × List ℕ → Type 0
Begins octets x = (front : List ℕ) × Spells front x.0 × (octets ≡ front ++ x.1)

abbrev AllBegin : List ℕ → Trees × List ℕ → Type 0
AllBegin octets x = (front : List ℕ) × SpellsAll front x.0 × (octets ≡ front ++ x.1)

around : (i s c rest all octets : List ℕ) → all ≡ i ++ octets → octets ≡ s ++ (c ++ rest) → all ≡ (i ++ (s ++ c)) ++ rest
around i s c rest all octets e f = e ∙ ap (λ (o : List ℕ). i ++ o) f ∙ sym (append_assoc i (s ++ c) rest ∙ ap (λ (o : List ℕ). i ++ o) (append_assoc s c rest))

primitive-is : (tag : Tag) (octets all : List ℕ) (x : Tree × List ℕ) → IsTag false tag → all ≡ identifier tag ++ octets
    → read_primitive tag octets ≡ Some x → Begins all x
primitive-is tag octets all x is split e =
    let (c, read, same) = map_some (read_contents octets) _ x e in
    let (size, l, parts) = read_contents-some octets c read in
    subst (Begins all) same
    (identifier tag ++ (size ++ c.0), (is, (size, l, refl)), around (identifier tag) size c.0 c.1 all octets split parts)

constructed-is : (read : List ℕ → Option (Trees × List ℕ)) → ((octets : List ℕ) (x : Trees × List ℕ) → read octets ≡ Some x → AllBegin octets x)
    → (tag : Tag) (inner : Option (List ℕ)) (octets all : List ℕ) (x : Tree × List ℕ) → IsTag true tag → all ≡ identifier tag ++ octets
    → after (128 ∷ []) octets ≡ inner → read_constructed read tag inner octets ≡ Some x → Begins all x
constructed-is read reads tag (Some inner) octets all x is split opens e =
    let (children, got, f) = bind_some (read inner) _ x e in
    let (rest, ends, g) = bind_some (after (0 ∷ 0 ∷ []) children.1) _ x f in
    let (contents, spelled, parts) = reads inner children got in
    let opened : octets ≡ 128 ∷ inner = after-some (128 ∷ []) octets inner opens in
    let ended : children.1 ≡ 0 ∷ 0 ∷ rest = after-some (0 ∷ 0 ∷ []) children.1 rest ends in
    let inside : inner ≡ (contents ++ 0 ∷ 0 ∷ []) ++ rest = parts ∙ ap (λ (o : List ℕ). contents ++ o) ended ∙ sym (append_assoc contents (0 ∷ 0 ∷ []) rest) in
    subst (Begins all) (some_is g) (
      identifier tag ++ 128 ∷ (contents ++ 0 ∷ 0 ∷ []),
      (is, contents, spelled, inr refl),
      split ∙ ap (λ (o : List ℕ). identifier tag ++ o) (opened ∙ ap (λ (o : List ℕ). 128 ∷ o) inside)
          ∙ sym (append_assoc (identifier tag) (128 ∷ (contents ++ 0 ∷ 0 ∷ [])) rest),
    )
constructed-is read reads tag None octets all x is split opens e =
    let (c, got, f) = bind_some (read_contents octets) _ x e in
    let (children, inside, g) = bind_some (option_and_then whole (read c.0)) _ x f in
    let (y, taken, all_taken) = bind_some (read c.0) whole children inside in
    let (size, l, parts) = read_contents-some octets c got in
    let (contents, spelled, ended) = reads c.0 (children, []) (taken ∙ ap Some (whole-some y children all_taken)) in
    let same : c.0 ≡ contents = ended ∙ append-nil contents in
    subst (Begins all) (some_is g) (
      identifier tag ++ (size ++ c.0),
      (is, c.0, subst (λ (o : List ℕ). SpellsAll o children) (sym same) spelled, inl (size, l, refl)),
      around (identifier tag) size c.0 c.1 all octets split parts,
    )

-- an element from what follows its tag on
abbrev from_tag : ℕ → Tag → List ℕ → Bool → Option (Tree × List ℕ)
from_tag steps tag octets c = if c then read_constructed (read_elements steps) tag (after (128 ∷ []) octets) octets else read_primitive tag octets

abbrev ElementIs : ℕ → Type 0
ElementIs steps = (octets : List ℕ) (x : Tree × List ℕ) → read_element steps octets ≡ Some x → Begins octets x

abbrev ElementsAre : ℕ → Type 0
ElementsAre steps = (octets : List ℕ) (x : Trees × List ℕ) → read_elements steps octets ≡ Some x → AllBegin octets x

by_kind : (steps : ℕ) → ElementsAre steps → (octets : List ℕ) (x : Tree × List ℕ) (tag : Tag × List ℕ) → IsTag tag.0.constructed tag.0
    → octets ≡ identifier tag.0 ++ tag.1 → (c : Bool) → tag.0.constructed ≡ c
    → from_tag steps tag.0 tag.1 c ≡ Some x → Begins octets x
by_kind steps elements octets x tag is split true kind e =
    constructed-is (read_elements steps) elements tag.0 _ tag.1 octets x (subst (λ c. IsTag c tag.0) kind is) split refl e
by_kind steps elements octets x tag is split false kind e = primitive-is tag.0 tag.1 octets x (subst (λ c. IsTag c tag.0) kind is) split e

-- what comes after the test for an end
abbrev elements_from : ℕ → List ℕ → Bool → Option (Trees × List ℕ)
elements_from steps octets ends = if ends then Some (Empty, octets) else do
  tree ← read_element steps octets
  trees ← read_elements steps tree.1
  Some (More tree.0 trees.0, trees.1)

joined : (octets front back rest : List ℕ) (t : Tree) (ts : Trees) (after_one : List ℕ) → Spells front t → SpellsAll back ts → octets ≡ front ++ after_one
    → after_one ≡ back ++ rest → AllBegin octets (More t ts, rest)
joined octets front back rest t ts after_one spelled all split parts =
    (front ++ back, (front, back, spelled, all, refl), split ∙ ap (λ (o : List ℕ). front ++ o) parts ∙ sym (append_assoc front back rest))

elements_from-is : (steps : ℕ) → ElementIs steps → ElementsAre steps → (octets : List ℕ) (x : Trees × List ℕ) (ends : Bool)
    → elements_from steps octets ends ≡ Some x → AllBegin octets x
elements_from-is steps element elements octets x true e = subst (AllBegin octets) (some_is e) ([], refl, refl)
elements_from-is steps element elements octets x false e =
    let (t, one, f) = bind_some (read_element steps octets) _ x e in
    let (ts, rest, g) = bind_some (read_elements steps t.1) _ x f in
    let (front, spelled, split) = element octets t one in
    let (back, all, parts) = elements t.1 ts rest in
    subst (AllBegin octets) (some_is g) (joined octets front back ts.1 t.0 ts.0 t.1 spelled all split parts)

mutual
  element-is : (steps : ℕ) → ElementIs steps
  element-is zero octets x e = absurd cc
  element-is (suc steps) octets x e =
      let (tag, read, f) = bind_some (read_tag octets) _ x e in
      let (is, split) = read_tag-some octets tag read in
      by_kind steps (elements-is steps) octets x tag is split tag.0.constructed refl f

  elements-is : (steps : ℕ) → ElementsAre steps
  elements-is zero octets x e = absurd cc
  elements-is (suc steps) octets x e = elements_from-is steps (element-is steps) (elements-is steps) octets x (at_end octets) e

pub tree-is : (octets : List ℕ) (t : Tree) → read_tree octets ≡ Some t → Spells octets t
unfolding read_tree
tree-is octets t e =
    let (x, read, all) = bind_some (read_element (length octets) octets) whole t e in
    let (front, spelled, split) = element-is (length octets) octets (t, []) (read ∙ ap Some (whole-some x t all)) in
    subst (λ (o : List ℕ). Spells o t) (sym (split ∙ append-nil front)) spelled

-- ---- what is spelled is read

opens_no_length : (size rest : List ℕ) (n : ℕ) → IsLength size n → after (128 ∷ []) (size ++ rest) ≡ None
opens_no_length size rest n l = go (after (128 ∷ []) (size ++ rest)) refl
  where
    go : (o : Option (List ℕ)) → after (128 ∷ []) (size ++ rest) ≡ o → o ≡ None
    go None e = refl
    go (Some inner) e = absurd (IsLength-not-128 size rest inner n l (after-some (128 ∷ []) (size ++ rest) inner e))

primitive-of : (tag : Tag) (size contents rest : List ℕ) → IsLength size (length contents)
    → read_primitive tag (size ++ (contents ++ rest)) ≡ Some (Primitive tag contents, rest)
primitive-of tag size contents rest l =
    ap (option_map (λ (c : List ℕ × List ℕ). (Primitive tag c.0, c.1))) (read_contents-of size contents rest l)

definite-of : (read : List ℕ → Option (Trees × List ℕ)) (tag : Tag) (ts : Trees) (size contents rest : List ℕ) → IsLength size (length contents)
    → read contents ≡ Some (ts, []) → read_constructed read tag (after (128 ∷ []) (size ++ (contents ++ rest))) (size ++ (contents ++ rest))
    ≡ Some (Constructed tag ts, rest)
definite-of read tag ts size contents rest l e =
    ap (λ (o : Option (List ℕ)). read_constructed read tag o (size ++ (contents ++ rest))) (opens_no_length size (contents ++ rest) (length contents) l)
    ∙ ap (option_and_then (λ (c : List ℕ × List ℕ). option_and_then (λ (ts : Trees). Some (Constructed tag ts, c.1)) (option_and_then whole (read c.0))))
    (read_contents-of size contents rest l)
    ∙ ap (λ (o : Option (Trees × List ℕ)). option_and_then (λ (ts : Trees). Some (Constructed tag ts, rest)) (option_and_then whole o)) e

indefinite-of : (read : List ℕ → Option (Trees × List ℕ)) (tag : Tag) (ts : Trees) (contents rest : List ℕ)
    → read (contents ++ 0 ∷ 0 ∷ rest) ≡ Some (ts, 0 ∷ 0 ∷ rest)
    → read_constructed read tag (after (128 ∷ []) (128 ∷ (contents ++ 0 ∷ 0 ∷ rest))) (128 ∷ (contents ++ 0 ∷ 0 ∷ rest)) ≡ Some (Constructed tag ts, rest)
indefinite-of read tag ts contents rest e =
    ap (option_and_then (λ (c : Trees × List ℕ). option_and_then (λ (o : List ℕ). Some (Constructed tag c.0, o)) (after (0 ∷ 0 ∷ []) c.1))) e

tagged-of : (steps : ℕ) (c : Bool) (tag : Tag) (octets all : List ℕ) (x : Tree × List ℕ) → IsTag c tag → all ≡ identifier tag ++ octets
    → from_tag steps tag octets c ≡ Some x → read_element (suc steps) all ≡ Some x
tagged-of steps c tag octets all x is split e =
    ap (read_element (suc steps)) split
    ∙ ap (option_and_then (λ (t : Tag × List ℕ). from_tag steps t.0 t.1 t.0.constructed)) (read_tag-of c tag octets is)
    ∙ ap (from_tag steps tag octets) is.kind ∙ e

apart : (i s c rest front : List ℕ) → front ≡ i ++ (s ++ c) → front ++ rest ≡ i ++ (s ++ (c ++ rest))
apart i s c rest front e = ap (λ (o : List ℕ). o ++ rest) e ∙ append_assoc i (s ++ c) rest ∙ ap (λ (o : List ℕ). i ++ o) (append_assoc s c rest)

some_octets : (tag : Tag) (front more : List ℕ) → front ≡ identifier tag ++ more → length more + 1 ≤ length front
some_octets tag front more e = let l = ap length e in omega (arith, length-append (identifier tag) more, identifier-length tag)

at_end-of : (octets : List ℕ) → IsEnd octets → at_end octets ≡ true
at_end-of [] e = refl
at_end-of (octet ∷ octets) e = eq-eqb octet 0 e

not_at_end : (t : Tree) (front rest : List ℕ) → Spells front t → at_end (front ++ rest) ≡ false
not_at_end t front rest s = go (front ++ rest) refl
  where
    test : (octet : ℕ) (octets : List ℕ) → front ++ rest ≡ octet ∷ octets → (b : Bool) → eqb octet 0 ≡ b → b ≡ false
    test octet octets e true is = absurd (Spells-no_end t front rest (octet ∷ octets) s e (eqb-true octet 0 is))
    test octet octets e false is = refl

    go : (octets : List ℕ) → front ++ rest ≡ octets → at_end octets ≡ false
    go [] e = absurd (Spells-no_end t front rest [] s e tt)
    go (octet ∷ octets) e = test octet octets e (eqb octet 0) refl

spelled_length : (t : Tree) (front : List ℕ) → Spells front t → 1 ≤ length front
spelled_length (Primitive tag contents) front (is, (size, l, e)) = let h = some_octets tag front (size ++ contents) e in omega arith
spelled_length (Constructed tag ts) front (is, contents, all, inl (size, l, e)) = let h = some_octets tag front (size ++ contents) e in omega arith
spelled_length (Constructed tag ts) front (is, contents, all, inr e) = let h = some_octets tag front (128 ∷ (contents ++ 0 ∷ 0 ∷ [])) e in omega arith

mutual
  element-of : (t : Tree) (steps : ℕ) (front rest : List ℕ) → Spells front t → length front ≤ steps → read_element steps (front ++ rest) ≡ Some (t, rest)
  element-of t zero front rest s h = absurd (let l = spelled_length t front s in omega arith)
  element-of (Primitive tag contents) (suc steps) front rest (is, (size, l, e)) h =
      tagged-of steps false tag (size ++ (contents ++ rest)) (front ++ rest) _ is (apart (identifier tag) size contents rest front e)
      (primitive-of tag size contents rest l)
  element-of (Constructed tag ts) (suc steps) front rest (is, contents, all, inl (size, l, e)) h =
      let enough : length contents < steps = (let a = some_octets tag front (size ++ contents) e in let b = IsLength-length size (length contents) l in
      omega (arith, length-append size contents)) in
      let inside = elements-of ts steps contents [] all tt enough in
      tagged-of steps true tag (size ++ (contents ++ rest)) (front ++ rest) _ is (apart (identifier tag) size contents rest front e)
      (definite-of (read_elements steps) tag ts size contents rest l (ap (read_elements steps) (sym (append-nil contents)) ∙ inside))
  element-of (Constructed tag ts) (suc steps) front rest (is, contents, all, inr e) h =
      let enough : length contents < steps = (let a = some_octets tag front (128 ∷ (contents ++ 0 ∷ 0 ∷ [])) e in
      omega (arith, length-append contents (0 ∷ 0 ∷ []))) in
      let inside = elements-of ts steps contents (0 ∷ 0 ∷ rest) all refl enough in
      let split : front ++ rest ≡ identifier tag ++ 128 ∷ (contents ++ 0 ∷ 0 ∷ rest) = ap (λ (o : List ℕ). o ++ rest) e
      ∙ append_assoc (identifier tag) (128 ∷ (contents ++ 0 ∷ 0 ∷ [])) rest
      ∙ ap (λ (o : List ℕ). identifier tag ++ 128 ∷ o) (append_assoc contents (0 ∷ 0 ∷ []) rest) in
      tagged-of steps true tag (128 ∷ (contents ++ 0 ∷ 0 ∷ rest)) (front ++ rest) _ is split
      (indefinite-of (read_elements steps) tag ts contents rest inside)

  elements-of : (ts : Trees) (steps : ℕ) (front rest : List ℕ) → SpellsAll front ts → IsEnd rest → length front < steps
      → read_elements steps (front ++ rest) ≡ Some (ts, rest)
  elements-of ts zero front rest s ends h = absurd (omega arith)
  elements-of Empty (suc steps) front rest s ends h =
      ap (λ (o : List ℕ). read_elements (suc steps) (o ++ rest)) s ∙ ap (elements_from steps rest) (at_end-of rest ends)
  elements-of (More t ts) (suc steps) front rest (one, back, s, all, split) ends h =
      let len : length front ≡ length one + length back = ap length split ∙ length-append one back in
      let some = spelled_length t one s in
      let first = element-of t steps one (back ++ rest) s (omega arith) in
      let others = elements-of ts steps back rest all ends (omega arith) in
      let parts : front ++ rest ≡ one ++ (back ++ rest) = ap (λ (o : List ℕ). o ++ rest) split ∙ append_assoc one back rest in
      ap (read_elements (suc steps)) parts
      ∙ ap (elements_from steps (one ++ (back ++ rest))) (not_at_end t one (back ++ rest) s)
      ∙ ap (option_and_then (λ (a : Tree × List ℕ). option_and_then (λ (b : Trees × List ℕ). Some (More a.0 b.0, b.1)) (read_elements steps a.1))) first
      ∙ ap (option_and_then (λ (b : Trees × List ℕ). Some (More t b.0, b.1))) others

pub tree-of : (octets : List ℕ) (t : Tree) → Spells octets t → read_tree octets ≡ Some t
unfolding read_tree
tree-of octets t s =
    ap (λ (o : List ℕ). option_and_then whole (read_element (length octets) o)) (sym (append-nil octets))
    ∙ ap (option_and_then whole) (element-of t (length octets) octets [] s (omega arith))
