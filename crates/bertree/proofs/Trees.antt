-- The elements that entries list, one at a time; the tree of each kind of node.
use Rattle.std.proofs.Common.{◌≡◌, ℕ, zero, suc, ◌≤◌, List, [], ◌∷◌, length, take, drop, min, arith, refl, sym, ap, ◌∙◌, length-take, length-drop}
use Rattle.std.specs.Borrow.{Bor}
use Rattle.std.specs.Prelude.{Some, None, if◌then◌else◌}
use Rattle.x690.specs.Reading.{children_of, children}
use Rattle.x690.specs.Tags.{same_tag}
use Rattle.x690.specs.Tree.{Tree, element}
use Rattle.x690.specs.Tree as x690
use Rattle.x690.specs.declared.Tag.{Tag}
use Rattle.x690.proofs.Forests.{list_of-trees}
use Rattle.bertree.specs.Nodes.{tree, elements, listed, first_listed}
use Rattle.bertree.specs.declared.nodes.Entry.{Entry}
use Rattle.bertree.specs.declared.nodes.Entry.TheVariants as entry
use Rattle.bertree.specs.declared.nodes.Nodes.{Nodes}
use Rattle.bertree.specs.declared.node.Node.TheVariants.{Primitive, Constructed}

-- room for more entries than there are changes nothing
enough : (n m : ℕ) (entries : List Entry) → length entries ≤ n → length entries ≤ m → first_listed n entries ≡ first_listed m entries
enough zero zero entries p q = refl
enough zero (suc m) [] p q = refl
enough zero (suc m) (e ∷ entries) p q = absurd (omega arith)
enough (suc n) zero [] p q = refl
enough (suc n) zero (e ∷ entries) p q = absurd (omega arith)
enough (suc n) (suc m) [] p q = refl
enough (suc n) (suc m) (entry.Primitive tag octets ∷ entries) p q =
    ap (λ ts. x690.Primitive tag octets.now ∷ ts) (enough n m entries (omega arith) (omega arith))
enough (suc n) (suc m) (entry.Constructed tag inside ∷ entries) p q =
    let t = length-take inside entries in let d = length-drop inside entries in
    let a = enough n m (take inside entries) (omega arith) (omega arith) in
    let b = enough n m (drop inside entries) (omega arith) (omega arith) in
    rw (a, b) refl

pub listed-none : listed [] ≡ []
unfolding listed
listed-none = refl

pub listed-Primitive : (tag : Tag) (octets : Bor (List ℕ)) (entries : List Entry)
    → listed (entry.Primitive tag octets ∷ entries) ≡ x690.Primitive tag octets.now ∷ listed entries
unfolding listed
listed-Primitive tag octets entries = refl

pub listed-Constructed : (tag : Tag) (inside : ℕ) (entries : List Entry)
    → listed (entry.Constructed tag inside ∷ entries) ≡ element tag (listed (take inside entries)) ∷ listed (drop inside entries)
unfolding listed
listed-Constructed tag inside entries =
    let t = length-take inside entries in let d = length-drop inside entries in
    let a = enough (length entries) (length (take inside entries)) (take inside entries) (omega arith) (omega arith) in
    let b = enough (length entries) (length (drop inside entries)) (drop inside entries) (omega arith) (omega arith) in
    rw (a, b) refl

-- no more entries are in an element than there are
take-least : {A : Type 0} → (n : ℕ) (l : List A) → take (min n (length l)) l ≡ take n l
take-least zero l =
    let e : min zero (length l) ≡ zero = omega arith in
    ap (λ k. take k l) e
take-least (suc n) [] =
    let e : min (suc n) zero ≡ zero = omega arith in
    ap (λ k. take k []) e
take-least (suc n) (a ∷ l) =
    let e : min (suc n) (suc (length l)) ≡ suc (min n (length l)) = omega arith in
    ap (λ k. take k (a ∷ l)) e ∙ ap (λ m. a ∷ m) (take-least n l)

drop-least : {A : Type 0} → (n : ℕ) (l : List A) → drop (min n (length l)) l ≡ drop n l
drop-least zero l =
    let e : min zero (length l) ≡ zero = omega arith in
    ap (λ k. drop k l) e
drop-least (suc n) [] =
    let e : min (suc n) zero ≡ zero = omega arith in
    ap (λ k. drop k []) e
drop-least (suc n) (a ∷ l) =
    let e : min (suc n) (suc (length l)) ≡ suc (min n (length l)) = omega arith in
    ap (λ k. drop k (a ∷ l)) e ∙ drop-least n l

pub listed-inside : (tag : Tag) (inside place : ℕ) (entries : List Entry) → place ≡ min inside (length entries)
    → listed (entry.Constructed tag inside ∷ entries) ≡ element tag (listed (take place entries)) ∷ listed (drop place entries)
listed-inside tag inside place entries e =
    let t = ap (λ n. take n entries) e ∙ take-least inside entries in
    let d = ap (λ n. drop n entries) e ∙ drop-least inside entries in
    listed-Constructed tag inside entries ∙ sym (rw (t, d) refl)

-- an element has an entry
first_listed-length : (n : ℕ) (entries : List Entry) → length (first_listed n entries) ≤ length entries
first_listed-length zero entries = omega arith
first_listed-length (suc n) [] = omega arith
first_listed-length (suc n) (entry.Primitive tag octets ∷ entries) = omega (arith, first_listed-length n entries)
first_listed-length (suc n) (entry.Constructed tag inside ∷ entries) =
    omega (arith, first_listed-length n (drop inside entries), length-drop inside entries)

pub listed-length : (entries : List Entry) → length (listed entries) ≤ length entries
unfolding listed
listed-length entries = first_listed-length (length entries) entries

pub elements-length : (nodes : Nodes) → length (elements nodes) ≤ length nodes.entries.now
unfolding elements
elements-length nodes = listed-length nodes.entries.now

pub elements-listed : (nodes : Nodes) → elements nodes ≡ listed nodes.entries.now
unfolding elements
elements-listed nodes = refl

-- no entries list no elements
none-listed : (entries : List Entry) → length entries ≡ 0 → listed entries ≡ []
none-listed [] e = listed-none
none-listed (first ∷ entries) e = absurd (omega arith)

pub elements-none : (nodes : Nodes) → length nodes.entries.now ≡ 0 → elements nodes ≡ []
elements-none nodes e = elements-listed nodes ∙ none-listed nodes.entries.now e

pub tree-Primitive : (tag : Tag) (octets : Bor (List ℕ)) → tree (Primitive tag octets) ≡ x690.Primitive tag octets.now
unfolding tree
tree-Primitive tag octets = refl

pub tree-Constructed : (tag : Tag) (nodes : Nodes) → tree (Constructed tag nodes) ≡ element tag (elements nodes)
unfolding tree
tree-Constructed tag nodes = refl

pub children_of-Constructed : (tag own : Tag) (nodes : Nodes)
    → children_of tag (tree (Constructed own nodes)) ≡ (if same_tag own tag then Some (elements nodes) else None)
children_of-Constructed tag own nodes =
    ap (children_of tag) (tree-Constructed own nodes) ∙ ap (λ ts. if same_tag own tag then Some ts else None) (list_of-trees (elements nodes))

pub children-Constructed : (own : Tag) (nodes : Nodes) → children (tree (Constructed own nodes)) ≡ elements nodes
children-Constructed own nodes = ap children (tree-Constructed own nodes) ∙ list_of-trees (elements nodes)

pub ruleset tree_views = (tree-Primitive, tree-Constructed, children_of-Constructed, children-Constructed)

pub ruleset list_views = (listed-none, listed-Primitive, listed-inside, elements-listed, elements-none, tree-Primitive, tree-Constructed)
