-- The tree of each kind of tree that is sent, and its octets.
use Rattle.std.proofs.Common.{◌≡◌, ℕ, ◌+◌, ◌-◌, ◌≤◌, List, [], ◌∷◌, ◌++◌, length, take, drop, refl, sym, ◌∙◌, ap, arith, length-append, append_assoc, append-nil}
use Rattle.std.specs.Borrow.{Bor}
use Rattle.std.proofs.lemmas.List.{drop_all, take_at, drop_at}
use Rattle.x690.specs.Identifier.{identifier}
use Rattle.x690.specs.Length.{length_octets}
use Rattle.x690.specs.Reading.{tag_of}
use Rattle.x690.specs.Spelling.{definite, enc, enc_all}
use Rattle.x690.specs.Tree.{Tree, element, trees}
use Rattle.x690.specs.Tree as x690
use Rattle.x690.specs.declared.Tag.{Tag}
use Rattle.berwrite.specs.OwnTrees.{own, owns, own_step}
use Rattle.berwrite.specs.declared.own_tree.OwnTree.{OwnTree}
use Rattle.berwrite.specs.declared.own_tree.OwnTree.TheOpen as layer
use Rattle.berwrite.specs.declared.own_tree.OwnTree.TheVariants.{Primitive, Constructed, rolls-Primitive, rolls-Constructed}
use Rattle.berwrite.specs.declared.own_tree.OwnTree.TheFolds.{fold-roll-OwnTree}

pub own-Primitive : (tag : Tag) (octets : Bor (List ℕ)) → own (Primitive tag octets) ≡ x690.Primitive tag octets.now
unfolding own
own-Primitive tag octets = ap own (sym (rolls-Primitive tag octets)) ∙ fold-roll-OwnTree Tree own_step (layer.Primitive tag octets)

pub own-Constructed : (tag : Tag) (children : Bor (List OwnTree)) → own (Constructed tag children) ≡ element tag (owns children.now)
unfolding own
own-Constructed tag children = ap own (sym (rolls-Constructed tag children)) ∙ fold-roll-OwnTree Tree own_step (layer.Constructed tag children)

-- What a caller's proofs use: a function that takes such a tree apart names it in
-- #[tactic(auto, using(berwrite::proofs::Own::own_views))]. The builders' callers need nothing.
pub ruleset own_views = (own-Primitive, own-Constructed)

-- the octets of several elements, one after the other
abbrev pub enc_each : List OwnTree → List ℕ
enc_each children = enc_all (trees (owns children))

-- the contents' octets of an element
abbrev pub contents_of : Tree → List ℕ
contents_of (x690.Primitive tag octets) = octets
contents_of (x690.Constructed tag children) = enc_all children

pub enc-definite : (t : Tree) → enc t ≡ definite (tag_of t) (contents_of t)
enc-definite (x690.Primitive tag octets) = refl
enc-definite (x690.Constructed tag children) = refl

pub contents-primitive : (t : OwnTree) (tag : Tag) (octets : Bor (List ℕ)) → t ≡ Primitive tag octets → contents_of (own t) ≡ octets.now
contents-primitive t tag octets is = ap contents_of (ap own is ∙ own-Primitive tag octets)

pub contents-constructed : (t : OwnTree) (tag : Tag) (children : Bor (List OwnTree))
    → t ≡ Constructed tag children → contents_of (own t) ≡ enc_each children.now
contents-constructed t tag children is = ap contents_of (ap own is ∙ own-Constructed tag children)

-- nothing is left after the last child
pub all-written : (xs : List OwnTree) (i : ℕ) (out start : List ℕ) → length xs ≤ i → out ++ enc_each (drop i xs) ≡ start ++ enc_each xs
    → out ≡ start ++ enc_each xs
all-written xs i out start h e = sym (append-nil out) ∙ ap (λ ys. out ++ enc_each ys) (sym (drop_all i xs h)) ∙ e

-- ---- one element

-- identifier, length and contents, one after the other
pub written : (t : Tree) (start a b all : List ℕ) (n : ℕ) → a ≡ start ++ identifier (tag_of t) → b ≡ a ++ length_octets n → n ≡ length (contents_of t)
    → all ≡ b ++ contents_of t → all ≡ start ++ enc t
written t start a b all n p q r s = s ∙ rw (q, p, r, enc-definite t) (simp append_assoc)

-- identifier, a place and contents, and then the length in the place
pub placed : (t : Tree) (start a b all : List ℕ) (place : ℕ) → a ≡ start ++ identifier (tag_of t) → place ≡ length a
    → b ≡ (a ++ 0 ∷ []) ++ contents_of t → all ≡ take place b ++ (length_octets (length b - place - 1) ++ drop (place + 1) b)
    → all ≡ start ++ enc t
placed t start a b all place p q r s =
    let contents = contents_of t in
    let before : take place b ≡ a = rw (r, append_assoc a (0 ∷ []) contents) (take_at a (0 ∷ contents) place (sym q)) in
    let one : length (a ++ 0 ∷ []) ≡ place + 1 = omega (arith, length-append a (0 ∷ [])) in
    let behind : drop (place + 1) b ≡ contents = rw r (drop_at (a ++ 0 ∷ []) contents (place + 1) one) in
    let size : length b - place - 1 ≡ length contents = omega (arith, ap length r, length-append (a ++ 0 ∷ []) contents, length-append a (0 ∷ [])) in
    s ∙ rw (before, behind, size, p, enc-definite t) (simp append_assoc)
