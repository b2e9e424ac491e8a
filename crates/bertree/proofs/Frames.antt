-- The elements that the code has open, as frames.
use Rattle.std.proofs.Common.{◌≡◌, ℕ, suc, ◌+◌, ◌*◌, ◌/◌, ◌-◌, ◌<◌, ◌≤◌, max, Option, Some, None, List, [], ◌∷◌, ◌++◌, length, set, reverse, refl, sym, ◌∙◌, ap, subst, arith, length-append, append-nil, append_assoc, true, false}
use Rattle.std.proofs.lemmas.List.{reverse-append, length-reverse, length-set}
use Rattle.std.specs.Borrow.{Bor}
use Rattle.x690.specs.Identifier.{IsTag, identifier}
use Rattle.x690.specs.Tree.{Tree, Primitive, element, trees, levels}
use Rattle.x690.specs.Spelling.{Definite, Spells}
use Rattle.x690.specs.declared.Tag.{Tag}
use Rattle.x690.proofs.Identifiers.{identifier-length}
use Rattle.x690.proofs.Lengths.{IsLength-length}
use Rattle.x690.proofs.Spellings.{Spells-inj}
use Rattle.bertree.specs.Head.{IsElement, Opens, followed_by, BeginsNoElement}
use Rattle.bertree.specs.Listed.{IsListed, AreListed}
use Rattle.bertree.specs.declared.node.Node.TheVariants as node
use Rattle.bertree.specs.declared.nodes.Entry.{Entry}
use Rattle.bertree.specs.declared.nodes.Entry.TheVariants as entry
use Rattle.bertree.specs.declared.nodes.Nodes.{Nodes}
use Rattle.bertree.proofs.Listings.{are-listed, listed-push, marked}
use Rattle.bertree.proofs.Trees.{tree-Primitive, tree-Constructed}
use Rattle.bertree.specs.Nodes.{tree, elements, listed}
use Rattle.bertree.specs.Contents.{Closes}
use Rattle.bertree.specs.declared.read.Open.{Open}
use Rattle.bertree.proofs.States.{Frame, opened, closed, weight, IsAt, IsAt-first, IsAt-opened, IsAt-grown, IsAt-closed, IsAt-last, IsAt-more, IsAt-stuck, levels-grown, levels-opened}

-- an element that is open, with its children so far
abbrev pub frame_of : Open → List Tree → Frame
frame_of o children = record { tag = o.tag; children = children; after = followed_by o.after }

-- the elements that are open, from the inside out, with their children so far
abbrev pub frames : List Open → List (List Tree) → List Frame
frames [] all = []
frames (o ∷ os) [] = []
frames (o ∷ os) (ts ∷ all) = frame_of o ts ∷ frames os all

-- The entries list the children so far of an open element, after its own entry, which is not told yet how many are in it; and
-- before that those of the elements around it, so. The outermost one has no entry.
abbrev pub ArePlaced : Open → List Open → List Tree → List (List Tree) → List Entry → Type 0
ArePlaced o [] ts [] entries = AreListed (trees ts) entries × (o.before ≡ 0)
ArePlaced o [] ts (us ∷ all) entries = ⊥
ArePlaced o (p ∷ os) ts [] entries = ⊥
ArePlaced o (p ∷ os) ts (us ∷ all) entries =
    (there : List Entry) × (mark : Entry) × (found : List Entry) × (entries ≡ there ++ mark ∷ found) × AreListed (trees ts) found
    × (o.before ≡ length there + 1) × ArePlaced p os us all there

-- the code keeps the elements around the innermost one from the outside in
reverse-push : (os : List Open) (o : Open) → reverse (os ++ o ∷ []) ≡ o ∷ reverse os
reverse-push os o = reverse-append os (o ∷ [])

-- each element but the outermost one has an entry
placed-length : (o : Open) (os : List Open) (ts : List Tree) (all : List (List Tree)) (entries : List Entry) → ArePlaced o os ts all entries
    → (length os ≤ length entries) × (length (frames os all) ≡ length os)
placed-length o [] ts [] entries p = (omega arith, refl)
placed-length o [] ts (us ∷ all) entries p = absurd p
placed-length o (q ∷ os) ts [] entries p = absurd p
placed-length o (q ∷ os) ts (us ∷ all) entries (there, mark, found, is, are, at, p) =
    let r = placed-length q os us all there p in let l = ap length is ∙ length-append there (mark ∷ found) in
    (omega (arith, r.0), ap suc r.1)

-- an element after all others is the innermost one's
placed-grown : (o : Open) (os : List Open) (ts : List Tree) (all : List (List Tree)) (entries front : List Entry) (t : Tree)
    → ArePlaced o os ts all entries → IsListed t front → ArePlaced o os (ts ++ t ∷ []) all (entries ++ front)
placed-grown o [] ts [] entries front t (are, at) one = (listed-push ts t entries front are one, at)
placed-grown o [] ts (us ∷ all) entries front t p one = absurd p
placed-grown o (q ∷ os) ts [] entries front t p one = absurd p
placed-grown o (q ∷ os) ts (us ∷ all) entries front t (there, mark, found, is, are, at, p) one = (
  there,
  mark,
  found ++ front,
  ap (λ es. es ++ front) is ∙ append_assoc there (mark ∷ found) front,
  listed-push ts t found front are one,
  at,
  p,
)

-- where the entry of an open element stands, and how many are in it so far
pub record IsMarked (o : Open) (entries : List Entry) : Type 0 where
  pub some : 0 < o.before
  pub most : o.before ≤ length entries

placed-marked : (o p : Open) (os : List Open) (ts : List Tree) (all : List (List Tree)) (entries : List Entry)
    → ArePlaced o (p ∷ os) ts all entries → IsMarked o entries
placed-marked o p os ts [] entries q = absurd q
placed-marked o p os ts (us ∷ all) entries (there, mark, found, is, are, at, q) =
    let l = ap length is ∙ length-append there (mark ∷ found) in
    record { some = omega arith; most = omega arith }

-- the innermost element ends: it is a child of the one around it
placed-closed : (o p : Open) (os : List Open) (ts us : List Tree) (all : List (List Tree)) (entries entries' : List Entry) (inside : ℕ)
    → ArePlaced o (p ∷ os) ts (us ∷ all) entries → inside ≡ length entries - o.before
    → entries' ≡ set entries (o.before - 1) (entry.Constructed o.tag inside)
    → ArePlaced p os (us ++ element o.tag ts ∷ []) all entries'
placed-closed o p os ts us all entries entries' inside (there, mark, found, is, are, at, q) count told =
    let l = ap length is ∙ length-append there (mark ∷ found) in
    let place : o.before - 1 ≡ length there = omega arith in
    let n : inside ≡ length found = omega arith in
    let m = told ∙ marked there found entries mark (entry.Constructed o.tag inside) (o.before - 1) is place in
    let g = placed-grown p os us all there (entry.Constructed o.tag inside ∷ found) (element o.tag ts) q
    (found, are, ap (λ k. entry.Constructed o.tag k ∷ found) n) in
    subst (λ es. ArePlaced p os (us ++ element o.tag ts ∷ []) all es) (sym m) g

-- the reader is at this element, with these around it, and these octets left; the tree has as many levels so far
pub record IsWithin (every : List ℕ) (f : Frame) (gs : List Frame) (octets : List ℕ) (deepest : ℕ) : Type 0 where
  pub at : IsAt every f gs octets
  pub deep : deepest ≡ levels (closed f gs)

-- the code is at this element, with these around it, these entries, and these octets left
pub record IsReading (every : List ℕ) (inner : Open) (outer : List Open) (entries : List Entry) (octets : List ℕ) (deepest : ℕ) : Type 0 where
  pub children : List Tree
  pub around : List (List Tree)
  pub within : IsWithin every (frame_of inner children) (frames (reverse outer) around) octets deepest
  pub placed : ArePlaced inner (reverse outer) children around entries

module _ (every : List ℕ) where
  pub reading-first : (new : Open) (outer : List Open) (entries : List Entry) (contents : List ℕ) (tag : Tag) (after : Option (Bor (List ℕ)))
      → outer ≡ [] → entries ≡ [] → new.tag ≡ tag → new.before ≡ 0 → new.after ≡ after
      → IsTag true tag × Opens (followed_by after) every tag contents → IsReading every new outer entries contents 1
  reading-first new outer entries contents tag after none fresh p b q h =
      let o : Opens (followed_by new.after) every new.tag contents = rw (q, p) h.1 in
      let k : IsTag true new.tag = rw p h.0 in
      let w : IsWithin every (opened new.tag (followed_by new.after)) [] contents 1
      = record { at = IsAt-first (followed_by new.after) every contents new.tag k o; deep = refl } in
      rw (none, fresh) (record { children = []; around = []; within = w; placed = (refl, b) })

  pub reading-opened : (inner new : Open) (outer outer' : List Open) (entries entries' : List Entry) (mark : Entry) (octets contents : List ℕ)
      (tag : Tag) (after : Option (Bor (List ℕ))) (deepest deepest' : ℕ)
      → IsReading every inner outer entries octets deepest → outer' ≡ outer ++ inner ∷ [] → entries' ≡ entries ++ mark ∷ []
      → new.tag ≡ tag → new.before ≡ length entries' → new.after ≡ after
      → IsTag true tag × Opens (followed_by after) octets tag contents → deepest' ≡ max deepest (length outer + 2)
      → IsReading every new outer' entries' contents deepest'
  reading-opened inner new outer outer' entries entries' mark octets contents tag after deepest deepest' r pushed marked p b q h d =
      let f = frame_of inner r.children in
      let gs = frames (reverse outer) r.around in
      let u = ap reverse pushed ∙ reverse-push outer inner in
      let o : Opens (followed_by new.after) octets new.tag contents = rw (q, p) h.1 in
      let k : IsTag true new.tag = rw p h.0 in
      let l = levels-opened f gs new.tag (followed_by new.after) in
      let n = (placed-length inner (reverse outer) r.children r.around entries r.placed).1 ∙ length-reverse outer in
      let m = ap length marked ∙ length-append entries (mark ∷ []) in
      let w : IsWithin every (opened new.tag (followed_by new.after)) (f ∷ gs) contents deepest' = record {
        at = IsAt-opened (followed_by new.after) every f gs octets contents new.tag r.within.at k o;
        deep = omega (arith, r.within.deep);
      } in
      record {
        children = [];
        around = r.children ∷ r.around;
        within = subst (λ os. IsWithin every (opened new.tag (followed_by new.after)) (frames os (r.children ∷ r.around)) contents deepest') (sym u) w;
        placed = subst (λ os. ArePlaced new os [] (r.children ∷ r.around) entries') (sym u)
            (entries, mark, [], marked, refl, omega arith, r.placed);
      }

  pub reading-grown : (inner : Open) (outer : List Open) (entries entries' : List Entry) (octets : List ℕ) (tag : Tag) (contents after : Bor (List ℕ))
      (deepest deepest' : ℕ)
      → IsReading every inner outer entries octets deepest → entries' ≡ entries ++ entry.Primitive tag contents ∷ []
      → IsTag false tag × IsElement octets tag contents.now after.now
      → deepest' ≡ max deepest (length outer + 2) → IsReading every inner outer entries' after.now deepest'
  reading-grown inner outer entries entries' octets tag contents after deepest deepest' r pushed h d =
      let leaf = Primitive tag contents.now in
      let f = frame_of inner r.children in
      let gs = frames (reverse outer) r.around in
      let l = levels-grown f gs leaf in
      let n = (placed-length inner (reverse outer) r.children r.around entries r.placed).1 ∙ length-reverse outer in
      record {
        children = r.children ++ leaf ∷ [];
        around = r.around;
        within = record {
          at = IsAt-grown every f gs octets h.1.front after.now leaf r.within.at (h.0, h.1.definite) h.1.split;
          deep = omega (arith, r.within.deep);
        };
        placed = subst (λ es. ArePlaced inner (reverse outer) (r.children ++ leaf ∷ []) r.around es) (sym pushed)
            (placed-grown inner (reverse outer) r.children r.around entries (entry.Primitive tag contents ∷ []) leaf r.placed (contents, refl, refl));
      }

  closed-within : (inner parent : Open) (os : List Open) (ts : List Tree) (all : List (List Tree)) (entries entries' : List Entry) (inside : ℕ)
      (octets after : List ℕ) (deepest : ℕ)
      → IsWithin every (frame_of inner ts) (frames (parent ∷ os) all) octets deepest → ArePlaced inner (parent ∷ os) ts all entries
      → Closes (followed_by inner.after) octets [] after → inside ≡ length entries - inner.before
      → entries' ≡ set entries (inner.before - 1) (entry.Constructed inner.tag inside)
      → (us : List Tree) × (rest : List (List Tree)) × IsWithin every (frame_of parent us) (frames os rest) after deepest
      × ArePlaced parent os us rest entries'
  closed-within inner parent os ts [] entries entries' inside octets after deepest w p c count told = absurd p
  closed-within inner parent os ts (us ∷ rest) entries entries' inside octets after deepest w p c count told = (
    us ++ element inner.tag ts ∷ [],
    rest,
    record { at = IsAt-closed every (frame_of inner ts) (frame_of parent us) (frames os rest) octets after w.at c; deep = w.deep },
    placed-closed inner parent os ts us rest entries entries' inside p count told,
  )

  pub reading-closed : (inner parent : Open) (outer outer' : List Open) (entries entries' : List Entry) (inside : ℕ) (octets after : List ℕ)
      (deepest : ℕ)
      → IsReading every inner outer entries octets deepest → outer ≡ outer' ++ parent ∷ [] → Closes (followed_by inner.after) octets [] after
      → inside ≡ length entries - inner.before → entries' ≡ set entries (inner.before - 1) (entry.Constructed inner.tag inside)
      → IsReading every parent outer' entries' after deepest
  reading-closed inner parent outer outer' entries entries' inside octets after deepest r popped c count told =
      let u = ap reverse popped ∙ reverse-push outer' parent in
      let (us, rest, w, p) = closed-within inner parent (reverse outer') r.children r.around entries entries' inside octets after deepest
      (subst (λ os. IsWithin every (frame_of inner r.children) (frames os r.around) octets deepest) u r.within)
      (subst (λ os. ArePlaced inner os r.children r.around entries) u r.placed) c count told in
      record { children = us; around = rest; within = w; placed = p }

  -- the element that ends is not the outermost one
  pub reading-marked : (inner parent : Open) (outer outer' : List Open) (entries : List Entry) (octets : List ℕ) (deepest : ℕ)
      → IsReading every inner outer entries octets deepest → outer ≡ outer' ++ parent ∷ [] → IsMarked inner entries
  reading-marked inner parent outer outer' entries octets deepest r popped =
      let u = ap reverse popped ∙ reverse-push outer' parent in
      placed-marked inner parent (reverse outer') r.children r.around entries
      (subst (λ os. ArePlaced inner os r.children r.around entries) u r.placed)

  -- no element is around the innermost one
  alone-within : (inner : Open) (ts : List Tree) (all : List (List Tree)) (entries : List Entry) (octets : List ℕ) (deepest : ℕ)
      → IsWithin every (frame_of inner ts) (frames [] all) octets deepest → ArePlaced inner [] ts all entries
      → IsWithin every (frame_of inner ts) [] octets deepest × (listed entries ≡ ts)
  alone-within inner ts [] entries octets deepest w p = (w, are-listed ts entries p.0)
  alone-within inner ts (us ∷ all) entries octets deepest w p = absurd p

  reading-outermost : (inner : Open) (outer : List Open) (entries : List Entry) (octets : List ℕ) (deepest : ℕ)
      → (r : IsReading every inner outer entries octets deepest) → outer ≡ []
      → IsWithin every (frame_of inner r.children) [] octets deepest × (listed entries ≡ r.children)
  reading-outermost inner outer entries octets deepest r none =
      alone-within inner r.children r.around entries octets deepest
      (subst (λ os. IsWithin every (frame_of inner r.children) (frames (reverse os) r.around) octets deepest) none r.within)
      (subst (λ os. ArePlaced inner (reverse os) r.children r.around entries) none r.placed)

  pub reading-last : (inner : Open) (outer : List Open) (entries : List Entry) (nodes : Nodes) (octets after : List ℕ) (deepest : ℕ)
      → IsReading every inner outer entries octets deepest → outer ≡ [] → Closes (followed_by inner.after) octets [] after → after ≡ []
      → elements nodes ≡ listed entries
      → Spells every (tree (node.Constructed inner.tag nodes)) × (levels (tree (node.Constructed inner.tag nodes)) ≡ deepest)
  reading-last inner outer entries nodes octets after deepest r none c e is =
      let (w, are) = reading-outermost inner outer entries octets deepest r none in
      let t = tree-Constructed inner.tag nodes ∙ ap (element inner.tag) (is ∙ are) in
      (subst (λ u. Spells every u) (sym t) (IsAt-last every (frame_of inner r.children) octets after w.at c e), ap levels t ∙ sym w.deep)

  pub reading-more : (inner : Open) (outer : List Open) (entries : List Entry) (octets after : List ℕ) (deepest : ℕ)
      → IsReading every inner outer entries octets deepest
      → outer ≡ [] → Closes (followed_by inner.after) octets [] after → (after ≡ [] → ⊥) → (t : Tree) → Spells every t → ⊥
  reading-more inner outer entries octets after deepest r none c ne =
      IsAt-more every (frame_of inner r.children) octets after (reading-outermost inner outer entries octets deepest r none).0.at c ne

  pub reading-stuck : (inner : Open) (outer : List Open) (entries : List Entry) (octets : List ℕ) (deepest : ℕ)
      → IsReading every inner outer entries octets deepest
      → ((rest : List ℕ) → Closes (followed_by inner.after) octets [] rest → ⊥) → BeginsNoElement octets → (t : Tree) → Spells every t → ⊥
  reading-stuck inner outer entries octets deepest r no_end no_head =
      IsAt-stuck every (frame_of inner r.children) (frames (reverse outer) r.around) octets r.within.at no_end no_head

-- each step leaves less to do
pub head-length : (octets : List ℕ) (tag : Tag) (contents rest : List ℕ) → IsElement octets tag contents rest → length contents + length rest + 2 ≤ length octets
head-length octets tag contents rest e =
    let d = e.definite in
    let a = identifier-length tag in
    let b = IsLength-length d.0 (length contents) d.1 in
    let l = ap length e.split ∙ length-append e.front rest in
    let m = ap length d.2 ∙ length-append (identifier tag) (d.0 ++ contents) in
    let n = length-append d.0 contents in
    omega arith

Opens-length : (form : Option (List ℕ)) (octets contents : List ℕ) (tag : Tag) → Opens form octets tag contents → length contents + weight form < length octets
Opens-length (Some rest) octets contents tag o = let l = head-length octets tag contents rest o in omega arith
Opens-length None octets contents tag o =
    let a = identifier-length tag in
    let l = ap length o ∙ length-append (identifier tag) (128 ∷ contents) in
    omega arith

-- the number of steps left for the elements that are open
abbrev pub waiting : List Open → ℕ
waiting [] = 0
waiting (o ∷ os) = weight (followed_by o.after) + waiting os

waiting-push : (os : List Open) (o : Open) → waiting (os ++ o ∷ []) ≡ waiting os + weight (followed_by o.after)
waiting-push [] o = omega arith
waiting-push (x ∷ os) o = omega (arith, waiting-push os o)

pub opened-smaller : (inner new : Open) (outer outer' : List Open) (octets contents : List ℕ) (tag : Tag) (after : Option (Bor (List ℕ)))
    → outer' ≡ outer ++ inner ∷ [] → new.after ≡ after → IsTag true tag × Opens (followed_by after) octets tag contents
    → length contents + waiting (new ∷ outer') < length octets + waiting (inner ∷ outer)
opened-smaller inner new outer outer' octets contents tag after pushed q h =
    let u = ap waiting pushed ∙ waiting-push outer inner in
    let w = ap (λ a. weight (followed_by a)) q in
    let o = Opens-length (followed_by after) octets contents tag h.1 in
    omega arith

Closes-smaller : (form : Option (List ℕ)) (octets after : List ℕ) → Closes form octets [] after → length after < length octets + weight form
Closes-smaller (Some known) octets after c = let l = ap length c.1 in omega arith
Closes-smaller None octets after c = let l = ap length c.2 ∙ length-append c.0 (0 ∷ 0 ∷ after) in omega arith

pub closed-smaller : (inner parent : Open) (outer outer' : List Open) (octets after : List ℕ) → outer ≡ outer' ++ parent ∷ []
    → Closes (followed_by inner.after) octets [] after
    → length after + waiting (parent ∷ outer') < length octets + waiting (inner ∷ outer)
closed-smaller inner parent outer outer' octets after popped c =
    let p = ap waiting popped ∙ waiting-push outer' parent in
    let s = Closes-smaller (followed_by inner.after) octets after c in
    omega arith

-- all the octets are one primitive element, or more follows it
pub primitive-whole : (tag : Tag) (contents : Bor (List ℕ)) (octets after : List ℕ) → IsTag false tag × IsElement octets tag contents.now after → after ≡ []
    → Spells octets (tree (node.Primitive tag contents)) × (levels (tree (node.Primitive tag contents)) ≡ 1)
primitive-whole tag contents octets after h e =
    let p = tree-Primitive tag contents in
    let f : h.1.front ≡ octets = sym (append-nil h.1.front) ∙ ap (λ w. h.1.front ++ w) (sym e) ∙ sym h.1.split in
    (subst (λ u. Spells octets u) (sym p) (h.0, subst (λ w. Definite w tag contents.now) f h.1.definite), ap levels p)

pub primitive-more : (tag : Tag) (octets contents after : List ℕ) → IsTag false tag × IsElement octets tag contents after → (after ≡ [] → ⊥)
    → (t : Tree) → Spells octets t → ⊥
primitive-more tag octets contents after h ne t s =
    ne (sym (Spells-inj t (Primitive tag contents) octets h.1.front [] after s (h.0, h.1.definite) (append-nil octets ∙ h.1.split)).1)

-- What is left to read, and two octets for each entry and for the outermost element, are no more than there were octets. Each
-- element that is open waits for one step, which is no octet.
pub record AreTaken (inner : Open) (outer : List Open) (entries : List Entry) (rest : List ℕ) (octets : ℕ) : Type 0 where
  pub most : 2 * length entries + 1 + (length rest + waiting (inner ∷ outer)) ≤ octets + length outer
  pub each : length outer ≤ length entries

weight-some : (form : Option (List ℕ)) → 0 < weight form
weight-some None = omega arith
weight-some (Some after) = omega arith

waiting-each : (os : List Open) → length os ≤ waiting os
waiting-each [] = omega arith
waiting-each (o ∷ os) = let w = weight-some (followed_by o.after) in omega (arith, waiting-each os)

-- so there is room for one more entry, and for one more element that is open, if there is for half as many as there were octets
pub taken-room : (inner : Open) (outer : List Open) (entries : List Entry) (rest : List ℕ) (octets : ℕ) → AreTaken inner outer entries rest octets
    → (length entries < octets / 2) × (length outer < octets / 2)
taken-room inner outer entries rest octets h =
    let w = weight-some (followed_by inner.after) in let e = waiting-each outer in
    (omega (arith, h.most, h.each), omega (arith, h.most, h.each))

pub taken-first : (new : Open) (outer : List Open) (entries : List Entry) (octets contents : List ℕ) (tag : Tag) (after : Option (Bor (List ℕ)))
    → outer ≡ [] → entries ≡ [] → new.after ≡ after → IsTag true tag × Opens (followed_by after) octets tag contents
    → AreTaken new outer entries contents (length octets)
taken-first new outer entries octets contents tag after none fresh q h =
    let w = ap (λ a. weight (followed_by a)) q in
    let o = Opens-length (followed_by after) octets contents tag h.1 in
    rw (none, fresh) (record { most = omega arith; each = omega arith })

pub taken-opened : (inner new : Open) (outer outer' : List Open) (entries entries' : List Entry) (mark : Entry) (octets contents : List ℕ) (tag : Tag)
    (after : Option (Bor (List ℕ))) (all : ℕ)
    → AreTaken inner outer entries octets all → outer' ≡ outer ++ inner ∷ [] → entries' ≡ entries ++ mark ∷ [] → new.after ≡ after
    → IsTag true tag × Opens (followed_by after) octets tag contents → AreTaken new outer' entries' contents all
taken-opened inner new outer outer' entries entries' mark octets contents tag after all r pushed marked q h =
    let u = ap waiting pushed ∙ waiting-push outer inner in
    let n = ap length pushed ∙ length-append outer (inner ∷ []) in
    let m = ap length marked ∙ length-append entries (mark ∷ []) in
    let w = ap (λ a. weight (followed_by a)) q in
    let o = Opens-length (followed_by after) octets contents tag h.1 in
    record { most = omega (arith, r.most); each = omega (arith, r.each) }

pub taken-grown : (inner : Open) (outer : List Open) (entries entries' : List Entry) (e : Entry) (octets : List ℕ) (tag : Tag) (contents after : List ℕ)
    (all : ℕ)
    → AreTaken inner outer entries octets all → entries' ≡ entries ++ e ∷ [] → IsElement octets tag contents after
    → AreTaken inner outer entries' after all
taken-grown inner outer entries entries' e octets tag contents after all r pushed h =
    let m = ap length pushed ∙ length-append entries (e ∷ []) in
    let l = head-length octets tag contents after h in
    record { most = omega (arith, r.most); each = omega (arith, r.each) }

pub taken-closed : (inner parent : Open) (outer outer' : List Open) (entries entries' : List Entry) (place : ℕ) (e : Entry) (octets after : List ℕ) (all : ℕ)
    → AreTaken inner outer entries octets all → outer ≡ outer' ++ parent ∷ [] → Closes (followed_by inner.after) octets [] after
    → entries' ≡ set entries place e → AreTaken parent outer' entries' after all
taken-closed inner parent outer outer' entries entries' place e octets after all r popped c told =
    let p = ap waiting popped ∙ waiting-push outer' parent in
    let l = ap length popped ∙ length-append outer' (parent ∷ []) in
    let m = ap length told ∙ length-set entries place e in
    let d = Closes-smaller (followed_by inner.after) octets after c in
    record { most = omega (arith, r.most); each = omega (arith, r.each) }

pub no-items : (xs : List Open) → length xs ≡ 0 → xs ≡ []
no-items [] e = refl
no-items (x ∷ xs) e = absurd (omega arith)
