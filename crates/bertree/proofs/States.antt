-- A reader between two elements: what is open, and how the octets that are left complete it.
use Rattle.std.proofs.Common.{◌≡◌, ℕ, ◌+◌, max, Option, Some, None, true, List, [], ◌∷◌, ◌++◌, length, refl, sym, ◌∙◌, ap, append_assoc, arith, subst, inl, inr, append-nil}
use Rattle.x690.specs.Identifier.{IsTag, identifier}
use Rattle.x690.specs.Tree.{Tree, element, trees, levels, levels_of_all}
use Rattle.x690.specs.Spelling.{Definite, Spells}
use Rattle.x690.specs.declared.Tag.{Tag}
use Rattle.bertree.specs.Contents.{Closes}
use Rattle.bertree.specs.Head.{IsElement, Opens, BeginsNoElement}
use Rattle.bertree.proofs.Contents.{definite-front, unended-front, Closes-first, Closes-opened, Closes-more, Closes-end, Closes-stuck}

-- an element that is open: its tag, its children so far, and what follows it, if that is known
pub record Frame : Type 0 where
  pub tag : Tag
  pub children : List Tree
  pub after : Option (List ℕ)

abbrev pub grown : Frame → Tree → Frame
grown f t = record { tag = f.tag; children = f.children ++ t ∷ []; after = f.after }

-- the element, if it ends now
abbrev pub ended : Frame → Tree
ended f = element f.tag f.children

-- The element has ended with these children, and the octets complete the elements around it,
-- the innermost first, to the tree.
abbrev pub Ends : Tag → List Frame → List Tree → List ℕ → Tree → Type 0
Ends tag [] children octets t = (octets ≡ []) × (t ≡ element tag children)
Ends tag (g ∷ gs) children octets t =
    (ts : List Tree) × (after : List ℕ) × Closes g.after octets ts after
    × Ends g.tag gs (g.children ++ element tag children ∷ ts) after t

-- the octets complete the open elements to the tree
abbrev pub Completes : Frame → List Frame → List ℕ → Tree → Type 0
Completes f gs octets t = (ts : List Tree) × (after : List ℕ) × Closes f.after octets ts after × Ends f.tag gs (f.children ++ ts) after t

-- the reader of `all` is here: what the rest completes is what all the octets spell
pub record IsAt (all : List ℕ) (f : Frame) (gs : List Frame) (octets : List ℕ) : Type 0 where
  pub complete : (t : Tree) → Spells all t → Completes f gs octets t
  pub sound : (t : Tree) → Completes f gs octets t → Spells all t

Completes-grown : (f : Frame) (gs : List Frame) (octets front rest : List ℕ) (u t : Tree) → Spells front u → octets ≡ front ++ rest
    → Completes f gs octets t → Completes (grown f u) gs rest t
Completes-grown f gs octets front rest u t s e (ts, after, c, k) =
    let v = Closes-first f.after octets front rest after u ts c s e in
    (v.0, after, v.2, subst (λ x. Ends f.tag gs x after t) (ap (λ z. f.children ++ z) v.1 ∙ sym (append_assoc f.children (u ∷ []) v.0)) k)

grown-Completes : (f : Frame) (gs : List Frame) (octets front rest : List ℕ) (u t : Tree) → Spells front u → octets ≡ front ++ rest
    → Completes (grown f u) gs rest t → Completes f gs octets t
grown-Completes f gs octets front rest u t s e (ts, after, c, k) =
    (u ∷ ts, after, Closes-more f.after octets front rest after u ts c s e, subst (λ x. Ends f.tag gs x after t) (append_assoc f.children (u ∷ []) ts) k)

-- an element that was read whole
pub IsAt-grown : (all : List ℕ) (f : Frame) (gs : List Frame) (octets front rest : List ℕ) (u : Tree) → IsAt all f gs octets
    → Spells front u → octets ≡ front ++ rest → IsAt all (grown f u) gs rest
IsAt-grown all f gs octets front rest u at s e = record {
  complete = λ t h. Completes-grown f gs octets front rest u t s e (at.complete t h);
  sound = λ t h. at.sound t (grown-Completes f gs octets front rest u t s e h);
}

-- the innermost element has ended
Completes-closed : (f g : Frame) (gs : List Frame) (octets after : List ℕ) (t : Tree) → Closes f.after octets [] after
    → Completes f (g ∷ gs) octets t → Completes (grown g (ended f)) gs after t
Completes-closed f g gs octets after t h (ts, after', c, (ts', after'', c', k)) =
    let z = Closes-end f.after octets after after' ts h c in
    let e = ap (λ w. f.children ++ w) z.0 ∙ append-nil f.children in (
      ts',
      after'',
      subst (λ w. Closes g.after w ts' after'') z.1 c',
      subst (λ x. Ends g.tag gs x after'' t)
          (ap (λ w. g.children ++ element f.tag w ∷ ts') e ∙ sym (append_assoc g.children (ended f ∷ []) ts')) k,
    )

closed-Completes : (f g : Frame) (gs : List Frame) (octets after : List ℕ) (t : Tree) → Closes f.after octets [] after
    → Completes (grown g (ended f)) gs after t → Completes f (g ∷ gs) octets t
closed-Completes f g gs octets after t h (ts, after', c, k) = (
  [],
  after,
  h,
  (
    ts,
    after',
    c,
    subst (λ x. Ends g.tag gs x after' t)
        (append_assoc g.children (ended f ∷ []) ts ∙ ap (λ w. g.children ++ element f.tag w ∷ ts) (sym (append-nil f.children))) k,
  ),
)

pub IsAt-closed : (all : List ℕ) (f g : Frame) (gs : List Frame) (octets after : List ℕ) → IsAt all f (g ∷ gs) octets
    → Closes f.after octets [] after → IsAt all (grown g (ended f)) gs after
IsAt-closed all f g gs octets after at h = record {
  complete = λ t s. Completes-closed f g gs octets after t h (at.complete t s);
  sound = λ t s. at.sound t (closed-Completes f g gs octets after t h s);
}

abbrev pub opened : Tag → Option (List ℕ) → Frame
opened tag after = record { tag = tag; children = []; after = after }

-- a constructed element of the definite form has begun
Completes-constructed : (f : Frame) (gs : List Frame) (octets contents rest : List ℕ) (tag : Tag) (t : Tree) → IsTag true tag
    → IsElement octets tag contents rest
    → Completes f gs octets t → Completes (opened tag (Some rest)) (f ∷ gs) contents t
Completes-constructed f gs octets contents rest tag t h el (ts, after, c, k) =
    let d = el.definite in
    let e : octets ≡ identifier tag ++ (d.0 ++ (contents ++ rest)) = el.split ∙ rw (d.2) (simp append_assoc) in
    let (v, vs, front, back, is, sv, split, c') = Closes-opened f.after octets (d.0 ++ (contents ++ rest)) after ts true tag c h e in
    let (kids, isv, all, isb) = definite-front v front back octets contents rest tag sv split h el in (
      kids,
      rest,
      (all, refl),
      (
        vs,
        after,
        subst (λ w. Closes f.after w vs after) isb c',
        subst (λ x. Ends f.tag gs x after t) (ap (λ w. f.children ++ w) (is ∙ ap (λ w. w ∷ vs) isv)) k,
      ),
    )

constructed-Completes : (f : Frame) (gs : List Frame) (octets contents rest : List ℕ) (tag : Tag) (t : Tree) → IsTag true tag
    → IsElement octets tag contents rest
    → Completes (opened tag (Some rest)) (f ∷ gs) contents t → Completes f gs octets t
constructed-Completes f gs octets contents rest tag t h el (ts, after, (all, known), (ts', after', c, k)) = (
  element tag ts ∷ ts',
  after',
  Closes-more f.after octets el.front rest after' (element tag ts) ts'
      (subst (λ w. Closes f.after w ts' after') (sym known) c) (h, contents, all, inl el.definite) el.split,
  k,
)

pub IsAt-constructed : (every : List ℕ) (f : Frame) (gs : List Frame) (octets contents rest : List ℕ) (tag : Tag) → IsAt every f gs octets
    → IsTag true tag → IsElement octets tag contents rest → IsAt every (opened tag (Some rest)) (f ∷ gs) contents
IsAt-constructed every f gs octets contents rest tag at h el = record {
  complete = λ t s. Completes-constructed f gs octets contents rest tag t h el (at.complete t s);
  sound = λ t s. at.sound t (constructed-Completes f gs octets contents rest tag t h el s);
}

-- a constructed element of the indefinite form has begun
Completes-unended : (f : Frame) (gs : List Frame) (octets rest : List ℕ) (tag : Tag) (t : Tree) → IsTag true tag → octets ≡ identifier tag ++ (128 ∷ rest)
    → Completes f gs octets t → Completes (opened tag None) (f ∷ gs) rest t
Completes-unended f gs octets rest tag t h e (ts, after, c, k) =
    let (v, vs, front, back, is, sv, split, c') = Closes-opened f.after octets (128 ∷ rest) after ts true tag c h e in
    let (kids, contents, isv, all, isr) = unended-front v front back octets rest tag sv split h e in (
      kids,
      back,
      (contents, all, isr),
      (
        vs,
        after,
        c',
        subst (λ x. Ends f.tag gs x after t) (ap (λ w. f.children ++ w) (is ∙ ap (λ w. w ∷ vs) isv)) k,
      ),
    )

unended-Completes : (f : Frame) (gs : List Frame) (octets rest : List ℕ) (tag : Tag) (t : Tree) → IsTag true tag → octets ≡ identifier tag ++ (128 ∷ rest)
    → Completes (opened tag None) (f ∷ gs) rest t → Completes f gs octets t
unended-Completes f gs octets rest tag t h e (ts, after, (contents, all, isr), (ts', after', c, k)) =
    let front = identifier tag ++ (128 ∷ (contents ++ (0 ∷ 0 ∷ []))) in (
      element tag ts ∷ ts',
      after',
      Closes-more f.after octets front after after' (element tag ts) ts'
          c (h, contents, all, inr refl) (e ∙ rw isr (simp append_assoc)),
      k,
    )

pub IsAt-unended : (every : List ℕ) (f : Frame) (gs : List Frame) (octets rest : List ℕ) (tag : Tag) → IsAt every f gs octets
    → IsTag true tag → octets ≡ identifier tag ++ (128 ∷ rest) → IsAt every (opened tag None) (f ∷ gs) rest
IsAt-unended every f gs octets rest tag at h e = record {
  complete = λ t s. Completes-unended f gs octets rest tag t h e (at.complete t s);
  sound = λ t s. at.sound t (unended-Completes f gs octets rest tag t h e s);
}

-- the outermost element has begun
pub IsAt-first-constructed : (every contents rest : List ℕ) (tag : Tag) → IsTag true tag → IsElement every tag contents rest
    → IsAt every (opened tag (Some rest)) [] contents
IsAt-first-constructed every contents rest tag h el = record {
  complete = λ t s. (
      let (kids, isv, all, isb) = definite-front t every [] every contents rest tag s (sym (append-nil every)) h el in
      (kids, rest, (all, refl), (sym isb, isv)));
  sound = λ t (ts, after, (all, known), (over, is)). (
      subst (λ x. Spells every x) (sym is) (
        h,
        contents,
        all,
        inl (subst (λ x. Definite x tag contents)
            (sym (append-nil el.front) ∙ ap (λ w. el.front ++ w) (sym (known ∙ over)) ∙ sym el.split) el.definite),
      ));
}

pub IsAt-first-unended : (every rest : List ℕ) (tag : Tag) → IsTag true tag → every ≡ identifier tag ++ (128 ∷ rest)
    → IsAt every (opened tag None) [] rest
IsAt-first-unended every rest tag h e = record {
  complete = λ t s. (
      let (kids, contents, isv, all, isr) = unended-front t every [] every rest tag s (sym (append-nil every)) h e in
      (kids, [], (contents, all, isr), (refl, isv)));
  sound = λ t (ts, after, (contents, all, isr), (over, is)). (
      subst (λ x. Spells every x) (sym is)
      (h, contents, all, inr (e ∙ rw (isr, over) refl)));
}

-- either form
pub IsAt-opened : (form : Option (List ℕ)) (every : List ℕ) (f : Frame) (gs : List Frame) (octets contents : List ℕ) (tag : Tag) → IsAt every f gs octets
    → IsTag true tag → Opens form octets tag contents → IsAt every (opened tag form) (f ∷ gs) contents
IsAt-opened (Some rest) every f gs octets contents tag at h o = IsAt-constructed every f gs octets contents rest tag at h o
IsAt-opened None every f gs octets contents tag at h o = IsAt-unended every f gs octets contents tag at h o

pub IsAt-first : (form : Option (List ℕ)) (every contents : List ℕ) (tag : Tag) → IsTag true tag → Opens form every tag contents
    → IsAt every (opened tag form) [] contents
IsAt-first (Some rest) every contents tag h o = IsAt-first-constructed every contents rest tag h o
IsAt-first None every contents tag h o = IsAt-first-unended every contents tag h o

-- the outermost element has ended
pub IsAt-last : (every : List ℕ) (f : Frame) (octets after : List ℕ) → IsAt every f [] octets → Closes f.after octets [] after → after ≡ []
    → Spells every (ended f)
IsAt-last every f octets after at c e =
    at.sound (ended f) ([], after, c, (e, ap (element f.tag) (sym (append-nil f.children))))

pub IsAt-more : (every : List ℕ) (f : Frame) (octets after : List ℕ) → IsAt every f [] octets → Closes f.after octets [] after → (after ≡ [] → ⊥)
    → (t : Tree) → Spells every t → ⊥
IsAt-more every f octets after at c ne t s =
    let (ts, after', c', (over, is)) = at.complete t s in
    ne (sym (Closes-end f.after octets after after' ts c c').1 ∙ over)

-- there is no next element, and the innermost one has not ended
pub IsAt-stuck : (every : List ℕ) (f : Frame) (gs : List Frame) (octets : List ℕ) → IsAt every f gs octets
    → ((rest : List ℕ) → Closes f.after octets [] rest → ⊥) → BeginsNoElement octets → (t : Tree) → Spells every t → ⊥
IsAt-stuck every f gs octets at no_end no_head t s =
    let (ts, after, c, k) = at.complete t s in
    Closes-stuck f.after octets after ts no_end no_head c

-- the tree, if every element ends now
abbrev pub closed : Frame → List Frame → Tree
closed f [] = ended f
closed f (g ∷ gs) = closed (grown g (ended f)) gs

pub levels_of_all-push : (ts : List Tree) (u : Tree) → levels_of_all (trees (ts ++ u ∷ [])) ≡ max (levels_of_all (trees ts)) (levels u)
levels_of_all-push [] u = omega arith
levels_of_all-push (t ∷ ts) u = omega (arith, levels_of_all-push ts u)

levels-ended : (f : Frame) (u : Tree) → levels (ended (grown f u)) ≡ max (levels (ended f)) (1 + levels u)
levels-ended f u = omega (arith, levels_of_all-push f.children u)

pub levels-grown : (f : Frame) (gs : List Frame) (u : Tree) → levels (closed (grown f u) gs) ≡ max (levels (closed f gs)) (length gs + 1 + levels u)
levels-grown f [] u = omega (arith, levels-ended f u)
levels-grown f (g ∷ gs) u =
    omega (arith, levels-grown g gs (ended (grown f u)), levels-grown g gs (ended f), levels-ended f u)

pub levels-opened : (f : Frame) (gs : List Frame) (tag : Tag) (after : Option (List ℕ))
    → levels (closed (opened tag after) (f ∷ gs)) ≡ max (levels (closed f gs)) (length gs + 2)
levels-opened f gs tag after = omega (arith, levels-grown f gs (element tag []))

-- the number of steps left for an open element, by what follows it
abbrev pub weight : Option (List ℕ) → ℕ
weight None = 1
weight (Some after) = 1 + length after
