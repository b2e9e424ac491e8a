-- The reader of short elements between two of them.
use Rattle.std.proofs.Common.{◌≡◌, ℕ, ◌+◌, ◌-◌, ◌/◌, ◌<◌, ◌≤◌, true, false, List, [], ◌∷◌, ◌++◌, length, set, refl, sym, ◌∙◌, ap, subst, arith, inl, append_assoc, append-nil, length-append}
use Rattle.std.specs.Borrow.{Bor}
use Rattle.x690.specs.Identifier.{IsTag}
use Rattle.x690.specs.Tree.{Tree, Primitive, element, trees, levels, levels_of_all}
use Rattle.x690.specs.Spelling.{Spells, SpellsAll}
use Rattle.x690.specs.declared.Tag.{Tag}
use Rattle.bertree.specs.Head.{IsElement}
use Rattle.bertree.specs.Listed.{IsListed, AreListed, Adds}
use Rattle.bertree.specs.Nodes.{tree, elements, listed}
use Rattle.bertree.specs.declared.node.Node.TheVariants as node
use Rattle.bertree.specs.declared.nodes.Entry.{Entry}
use Rattle.bertree.specs.declared.nodes.Entry.TheVariants as entry
use Rattle.bertree.specs.declared.nodes.Nodes.{Nodes}
use Rattle.bertree.proofs.Frames.{head-length}
use Rattle.bertree.proofs.Listings.{are-listed, listed-push, marked}
use Rattle.bertree.proofs.States.{levels_of_all-push}
use Rattle.bertree.proofs.Trees.{tree-Constructed}

-- after the entries that were there are those of the elements that were read: with what the rest spells, these are what the octets spell
pub record HasRead (octets : List ℕ) (most : ℕ) (there entries : List Entry) (rest : List ℕ) : Type 0 where
  pub read : List Tree
  pub found : List Entry
  pub behind : entries ≡ there ++ found
  pub are_listed : AreListed (trees read) found
  pub complete : (ts : List Tree) → SpellsAll rest (trees ts) → SpellsAll octets (trees (read ++ ts))
  pub within : levels_of_all (trees read) ≤ most

-- there are at most so many entries, with as many as the rest can have; there is room for so many, and as much as there was before
pub record HasRoom (len capacity most before : ℕ) (rest : List ℕ) : Type 0 where
  pub enough : len + length rest / 2 ≤ most
  pub there : most ≤ capacity
  pub same : capacity ≡ before

pub read-none : (octets : List ℕ) (most : ℕ) (entries : List Entry) → HasRead octets most entries entries octets
read-none octets most entries = record {
  read = [];
  found = [];
  behind = sym (append-nil entries);
  are_listed = refl;
  complete = λ ts s. s;
  within = omega arith;
}

-- one more element, which begins the rest
read-one : (octets : List ℕ) (most : ℕ) (there entries entries' front : List Entry) (t : Tree) (octets' rest after : List ℕ)
    → HasRead octets most there entries rest → entries' ≡ entries ++ front → IsListed t front
    → rest ≡ octets' ++ after → Spells octets' t → levels t ≤ most → HasRead octets most there entries' after
read-one octets most there entries entries' front t octets' rest after r pushed one split s w =
    let l = levels_of_all-push r.read t in
    record {
      read = r.read ++ t ∷ [];
      found = r.found ++ front;
      behind = pushed ∙ ap (λ es. es ++ front) r.behind ∙ append_assoc there r.found front;
      are_listed = listed-push r.read t r.found front r.are_listed one;
      complete = λ ts more. subst (λ us. SpellsAll octets (trees us)) (sym (append_assoc r.read (t ∷ []) ts))
          (r.complete (t ∷ ts) (octets', after, s, more, split));
      within = omega (arith, r.within);
    }

pub read-primitive : (octets : List ℕ) (most : ℕ) (there entries entries' : List Entry) (tag : Tag) (contents : Bor (List ℕ)) (rest after : List ℕ)
    → HasRead octets most there entries rest → entries' ≡ entries ++ entry.Primitive tag contents ∷ []
    → IsTag tag.constructed tag × IsElement rest tag contents.now after → tag.constructed ≡ false → 0 < most
    → HasRead octets most there entries' after
read-primitive octets most there entries entries' tag contents rest after r pushed h kind some =
    let k : IsTag false tag = rw (sym kind) h.0 in
    read-one octets most there entries entries' (entry.Primitive tag contents ∷ []) (Primitive tag contents.now) h.1.front rest after r pushed
    (contents, refl, refl) h.1.split (k, h.1.definite) (omega arith)

-- a constructed element with these children
spelled-constructed : (tag : Tag) (children : List Tree) (octets contents after : List ℕ) → (h : IsTag tag.constructed tag × IsElement octets tag contents after)
    → tag.constructed ≡ true → SpellsAll contents (trees children) → Spells h.1.front (element tag children)
spelled-constructed tag children octets contents after h kind s =
    let k : IsTag true tag = rw (sym kind) h.0 in
    (k, contents, s, inl h.1.definite)

levels-constructed : (tag : Tag) (children : List Tree) (most : ℕ) → levels_of_all (trees children) ≤ most - 1 → 0 < most
    → levels (element tag children) ≤ most
levels-constructed tag children most w some = omega arith

-- the entry of the constructed element stands where the list ended
place-inside : (there inside all : List Entry) (mark : Entry) → all ≡ (there ++ mark ∷ []) ++ inside → all ≡ there ++ mark ∷ inside
place-inside there inside all mark e = e ∙ append_assoc there (mark ∷ []) inside

pub count-inside : (there with_mark all : List Entry) (mark : Entry) (contents : List ℕ) (most : ℕ) → with_mark ≡ there ++ mark ∷ []
    → (a : Adds contents most with_mark all) → length all ≡ length there + 1 + length a.found
count-inside there with_mark all mark contents most pushed a =
    ap length a.behind ∙ length-append with_mark a.found ∙ ap (λ n. n + length a.found) (ap length pushed ∙ length-append there (mark ∷ []))

pub read-constructed : (octets : List ℕ) (most : ℕ) (there entries with_mark all entries' : List Entry) (tag : Tag) (mark : Entry) (inside place : ℕ)
    (contents rest after : List ℕ)
    → HasRead octets most there entries rest → with_mark ≡ entries ++ mark ∷ [] → Adds contents (most - 1) with_mark all
    → place ≡ length entries → inside ≡ length all - place - 1 → entries' ≡ set all place (entry.Constructed tag inside)
    → IsTag tag.constructed tag × IsElement rest tag contents after → tag.constructed ≡ true → 0 < most
    → HasRead octets most there entries' after
read-constructed octets most there entries with_mark all entries' tag mark inside place contents rest after r pushed a at count told h kind some =
    let e = place-inside entries a.found all mark (a.behind ∙ ap (λ es. es ++ a.found) pushed) in
    let c = count-inside entries with_mark all mark contents (most - 1) pushed a in
    let n : inside ≡ length a.found = omega arith in
    let m = marked entries a.found all mark (entry.Constructed tag inside) place e at in
    read-one octets most there entries entries' (entry.Constructed tag inside ∷ a.found) (element tag a.spelled) h.1.front rest after r (told ∙ m)
    (a.found, a.are_listed, ap (λ k. entry.Constructed tag k ∷ a.found) n) h.1.split
    (spelled-constructed tag a.spelled rest contents after h kind a.are_spelled) (levels-constructed tag a.spelled most a.within some)

no-octets : (xs : List ℕ) → length xs ≡ 0 → xs ≡ []
no-octets [] e = refl
no-octets (x ∷ xs) e = absurd (omega arith)

-- an element leaves room for its entry, and for what it holds and what comes after it
pub room-for-one : (len capacity most before : ℕ) (rest : List ℕ) (tag : Tag) (contents after : List ℕ) → HasRoom len capacity most before rest
    → IsElement rest tag contents after
    → (len < capacity) × (len + 1 + length contents / 2 ≤ capacity) × (len + 1 + length contents / 2 + length after / 2 ≤ most)
room-for-one len capacity most before rest tag contents after r e =
    let l = head-length rest tag contents after e in
    (omega (arith, r.enough, r.there), omega (arith, r.enough, r.there), omega (arith, r.enough))

-- all elements have been read
pub read-all : (octets : List ℕ) (most : ℕ) (there entries : List Entry) (rest : List ℕ) → HasRead octets most there entries rest → length rest ≡ 0
    → Adds octets most there entries
read-all octets most there entries rest r none =
    let s = subst (λ w. SpellsAll w (trees []) → SpellsAll octets (trees (r.read ++ []))) (no-octets rest none) (r.complete []) in
    record {
      spelled = r.read;
      found = r.found;
      behind = r.behind;
      are_listed = r.are_listed;
      are_spelled = subst (λ us. SpellsAll octets (trees us)) (append-nil r.read) (s refl);
      within = r.within;
    }

-- all the octets are one constructed element
pub constructed-whole : (tag : Tag) (nodes : Nodes) (entries : List Entry) (octets contents after : List ℕ) (most : ℕ)
    → IsTag tag.constructed tag × IsElement octets tag contents after → tag.constructed ≡ true → length after ≡ 0 → 0 < most
    → Adds contents (most - 1) [] entries → elements nodes ≡ listed entries
    → Spells octets (tree (node.Constructed tag nodes)) × (levels (tree (node.Constructed tag nodes)) ≤ most)
constructed-whole tag nodes entries octets contents after most h kind none some a is =
    let f : h.1.front ≡ octets = sym (append-nil h.1.front) ∙ ap (λ w. h.1.front ++ w) (sym (no-octets after none)) ∙ sym h.1.split in
    let t = tree-Constructed tag nodes ∙ ap (element tag) (is ∙ ap listed a.behind ∙ are-listed a.spelled a.found a.are_listed) in
    let s = subst (λ w. Spells w (element tag a.spelled)) f (spelled-constructed tag a.spelled octets contents after h kind a.are_spelled) in
    let l = ap levels t in let w = levels-constructed tag a.spelled most a.within some in
    (subst (λ u. Spells octets u) (sym t) s, omega arith)
