-- From a reading to the elements that were read, and back.
use Rattle.std.proofs.Common.{◌≡◌, ℕ, Bool, true, false, ◌&&◌, eqb, cond, List, [], ◌∷◌, refl, ap, ◌∙◌}
use Rattle.std.specs.Prelude.{Option, Some, None, option_map, option_and_then, option_to_list}
use Rattle.std.proofs.lemmas.Bool.{eqb-true, eq-eqb}
use Rattle.x690.specs.declared.Tag.{Tag}
use Rattle.x690.specs.declared.Class.{Class}
use Rattle.x690.specs.declared.Class.TheVariants.{Universal, Application, ContextSpecific, Private}
use Rattle.x690.specs.Tags.{same_class, same_bool, same_tag}
use Rattle.x690.specs.Tree.{Tree, Primitive, Constructed, trees, list_of, element}
use Rattle.x690.specs.Reading.{octets_of, octet_of, children_of, only, only_child}
use Rattle.x690.specs.Elements.{first, at_most_one}
use Rattle.x690.specs.Laws.{OneReading}
use Rattle.x690.proofs.Forests.{list_of-trees, trees-list_of}

-- ---- tests

pub both_true : (a b : Bool) → a && b ≡ true → (a ≡ true) × (b ≡ true)
both_true true b e = (refl, e)
both_true false b e = absurd cc

same_class-is : (a b : Class) → same_class a b ≡ true → a ≡ b
same_class-is Universal Universal e = refl
same_class-is Application Application e = refl
same_class-is ContextSpecific ContextSpecific e = refl
same_class-is Private Private e = refl
same_class-is _ _ e = absurd cc

same_bool-is : (a b : Bool) → same_bool a b ≡ true → a ≡ b
same_bool-is true true e = refl
same_bool-is false false e = refl
same_bool-is _ _ e = absurd cc

abbrev made : Class → Bool → ℕ → Tag
made class constructed number = record { class = class; constructed = constructed; number = number }

made-same : (c d : Class) (x y : Bool) (m n : ℕ) → c ≡ d → x ≡ y → m ≡ n → made c x m ≡ made d y n
made-same c d x y m n e f g = cc

pub same_tag-is : (a b : Tag) → same_tag a b ≡ true → a ≡ b
same_tag-is a b e =
    let (cd, number) = both_true (same_class a.class b.class && same_bool a.constructed b.constructed) _ e in
    let (c, d) = both_true (same_class a.class b.class) _ cd in
    let ec : a.class ≡ b.class = same_class-is _ _ c in
    let ed : a.constructed ≡ b.constructed = same_bool-is _ _ d in
    let en : a.number ≡ b.number = eqb-true _ _ number in
    made-same _ _ _ _ _ _ ec ed en

pub same_tag-refl : (tag : Tag) → same_tag tag tag ≡ true
same_tag-refl tag = go tag.class tag.constructed tag.number
  where
    go : (c : Class) (b : Bool) (n : ℕ) → same_class c c && same_bool b b && eqb n n ≡ true
    go Universal true n = eq-eqb n n refl
    go Universal false n = eq-eqb n n refl
    go Application true n = eq-eqb n n refl
    go Application false n = eq-eqb n n refl
    go ContextSpecific true n = eq-eqb n n refl
    go ContextSpecific false n = eq-eqb n n refl
    go Private true n = eq-eqb n n refl
    go Private false n = eq-eqb n n refl

-- ---- one element

cond_some : {A : Type 0} (b : Bool) (x y : A) → cond b (Some x) None ≡ Some y → (b ≡ true) × (x ≡ y)
cond_some true x y e = (refl, cc)
cond_some false x y e = absurd cc

pub octets_of-some : (tag : Tag) (t : Tree) (octets : List ℕ) → octets_of tag t ≡ Some octets → t ≡ Primitive tag octets
octets_of-some tag (Primitive has own) octets e =
    let (b, same) = cond_some (same_tag has tag) own octets e in
    let et = same_tag-is has tag b in
    cc
octets_of-some tag (Constructed has ts) octets e = absurd cc

pub children_of-some : (tag : Tag) (t : Tree) (ts : List Tree) → children_of tag t ≡ Some ts → t ≡ element tag ts
children_of-some tag (Primitive has own) ts e = absurd cc
children_of-some tag (Constructed has own) ts e =
    let (b, same) = cond_some (same_tag has tag) (list_of own) ts e in
    let et = same_tag-is has tag b in
    let back = trees-list_of own in
    let over = ap trees same in
    cc

pub octets_of-Primitive : (tag : Tag) (octets : List ℕ) → octets_of tag (Primitive tag octets) ≡ Some octets
octets_of-Primitive tag octets = rw (same_tag-refl tag) refl

pub children_of-element : (tag : Tag) (ts : List Tree) → children_of tag (element tag ts) ≡ Some ts
children_of-element tag ts = rw (same_tag-refl tag, list_of-trees ts) refl

pub one_reading : OneReading
one_reading = record {
  octets = λ tag t contents. (octets_of-some tag t contents, λ e. ap (octets_of tag) e ∙ octets_of-Primitive tag contents);
  children = λ tag t elements. (children_of-some tag t elements, λ e. ap (children_of tag) e ∙ children_of-element tag elements);
}

-- ---- several

pub first-some : {A : Type 0} (read : Tree → Option A) (ts : List Tree) (x : A × List Tree) → first read ts ≡ Some x
    → (t : Tree) × (ts ≡ t ∷ x.1) × (read t ≡ Some x.0)
first-some {A} read [] x e = absurd cc
first-some {A} read (t ∷ ts) x e = go (read t) refl e
  where
    go : (o : Option A) → read t ≡ o → option_map (λ a. (a, ts)) o ≡ Some x → (u : Tree) × (t ∷ ts ≡ u ∷ x.1) × (read u ≡ Some x.0)
    go None e f = absurd cc
    go (Some a) e f = let p : (a, ts) ≡ x = cc in (t, ap (λ y. t ∷ y.1) p, e ∙ ap (λ y. Some y.0) p)

-- an element that is octets
pub first_octets : (tag : Tag) (ts : List Tree) (x : List ℕ × List Tree) → first (octets_of tag) ts ≡ Some x → ts ≡ Primitive tag x.0 ∷ x.1
first_octets tag ts x e =
    let (t, is, read) = first-some (octets_of tag) ts x e in
    is ∙ ap (λ u. u ∷ x.1) (octets_of-some tag t x.0 read)

-- ---- steps

-- the value of a step that returned one
pub bind_some : {A B : Type 0} (o : Option A) (f : A → Option B) (y : B) → option_and_then f o ≡ Some y → (x : A) × (o ≡ Some x) × (f x ≡ Some y)
bind_some None f y e = absurd cc
bind_some (Some x) f y e = (x, refl, e)

pub map_some : {A B : Type 0} (o : Option A) (f : A → B) (y : B) → option_map f o ≡ Some y → (x : A) × (o ≡ Some x) × (f x ≡ y)
map_some None f y e = absurd cc
map_some (Some x) f y e = (x, refl, cc)

pub some_is : {A : Type 0} {x y : A} → Some x ≡ Some y → x ≡ y
some_is e = cc

pub none_not : {A : Type 0} {o : Option A} {x : A} → o ≡ None → o ≡ Some x → ⊥
none_not e f = cc

pub only-some : {A : Type 0} (xs : List A) (x : A) → only xs ≡ Some x → xs ≡ x ∷ []
only-some [] x e = absurd cc
only-some (y ∷ []) x e = cc
only-some (y ∷ z ∷ xs) x e = absurd cc

pub octet_of-some : (tag : Tag) (t : Tree) (n : ℕ) → octet_of tag t ≡ Some n → t ≡ Primitive tag (n ∷ [])
octet_of-some tag t n e =
    let (octets, is, one) = bind_some (octets_of tag t) only n e in
    octets_of-some tag t octets is ∙ ap (Primitive tag) (only-some octets n one)

pub only_child-some : (tag : Tag) (t u : Tree) → only_child tag t ≡ Some u → t ≡ element tag (u ∷ [])
only_child-some tag t u e =
    let (ts, is, one) = bind_some (children_of tag t) only u e in
    children_of-some tag t ts is ∙ ap (element tag) (only-some ts u one)

pub at_most_one-some : (ts : List Tree) (p : Option Tree) → at_most_one ts ≡ Some p → ts ≡ option_to_list p
at_most_one-some [] None e = refl
at_most_one-some [] (Some t) e = absurd (some_none (some_is e))
  where
    some_none : {A : Type 0} {x : A} → None ≡ Some x → ⊥
    some_none e = cc
at_most_one-some (t ∷ []) None e = absurd (none_some (some_is e))
  where
    none_some : {A : Type 0} {x : A} → Some x ≡ None → ⊥
    none_some e = cc
at_most_one-some (t ∷ []) (Some u) e = ap (λ x. x ∷ []) (some_is (some_is e))
at_most_one-some (t ∷ u ∷ ts) p e = absurd cc
