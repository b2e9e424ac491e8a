-- What contents begin with, and what is left of them then.
use Rattle.std.proofs.Common.{◌≡◌, ℕ, inl, inr, Option, Some, None, Bool, true, false, List, [], ◌∷◌, ◌++◌, length, refl, sym, ◌∙◌, ap, append_assoc}
use Rattle.x690.specs.Identifier.{IsTag, identifier}
use Rattle.x690.specs.Tree.{Tree, Primitive, Constructed, element, trees, list_of}
use Rattle.x690.specs.Spelling.{Definite, Spells, SpellsAll}
use Rattle.x690.specs.declared.Tag.{Tag}
use Rattle.x690.proofs.Forests.{trees-list_of}
use Rattle.x690.proofs.Identifiers.{identifier-inj}
use Rattle.x690.proofs.Lengths.{IsLength-not-128}
use Rattle.x690.proofs.Spellings.{identifier-no_end, Spells-inj, tags-differ, Spells-no_end, Definite-inj, Definite-not-Indefinite}
use Rattle.bertree.specs.Contents.{Closes}
use Rattle.bertree.specs.Head.{IsElement, BeginsNoElement}

-- a definite form does not begin as the indefinite one does
Definite-not-unended : (c : Bool) (t u : Tag) (v x y p : List ℕ) → IsTag c t → IsTag true u → Definite v t p → v ++ x ≡ identifier u ++ (128 ∷ y) → ⊥
Definite-not-unended c t u v x y p ht hu d e =
    let ev : v ++ x ≡ identifier t ++ (d.0 ++ (p ++ x)) = rw (d.2) (simp append_assoc) in
    let i = identifier-inj t u (d.0 ++ (p ++ x)) (128 ∷ y) ht.small hu.small (sym ev ∙ e) in
    IsLength-not-128 d.0 (p ++ x) y (length p) d.1 i.1

-- the first element is the one that its head says
pub definite-front : (v : Tree) (front back rest contents after : List ℕ) (tag : Tag) → Spells front v → rest ≡ front ++ back
    → IsTag true tag → IsElement rest tag contents after
    → (kids : List Tree) × (v ≡ element tag kids) × SpellsAll contents (trees kids) × (back ≡ after)
definite-front (Primitive tag' inside) front back rest contents after tag (h, d) e k el =
    absurd (tags-differ tag' tag h k (Definite-inj false true tag' tag front el.front back after inside contents h k d el.definite (sym e ∙ el.split)).0)
definite-front (Constructed tag' children) front back rest contents after tag (h, inside, all, inl d) e k el =
    let i = Definite-inj true true tag' tag front el.front back after inside contents h k d el.definite (sym e ∙ el.split) in
    let l = trees-list_of children in
    (list_of children, ap (λ u. Constructed u children) i.0 ∙ ap (Constructed tag) (sym l), rw (l, ← i.1) all, i.2)
definite-front (Constructed tag' children) front back rest contents after tag (h, inside, all, inr d) e k el =
    absurd (Definite-not-Indefinite true true tag tag' el.front front after back contents inside k h el.definite d (sym el.split ∙ e))

pub unended-front : (v : Tree) (front back rest rest' : List ℕ) (tag : Tag) → Spells front v → rest ≡ front ++ back
    → IsTag true tag → rest ≡ identifier tag ++ (128 ∷ rest')
    → (kids : List Tree) × (contents : List ℕ) × (v ≡ element tag kids) × SpellsAll contents (trees kids) × (rest' ≡ contents ++ (0 ∷ 0 ∷ back))
unended-front (Primitive tag' inside) front back rest rest' tag (h, d) e k f =
    absurd (Definite-not-unended false tag' tag front back rest' inside h k d (sym e ∙ f))
unended-front (Constructed tag' children) front back rest rest' tag (h, inside, all, inl d) e k f =
    absurd (Definite-not-unended true tag' tag front back rest' inside h k d (sym e ∙ f))
unended-front (Constructed tag' children) front back rest rest' tag (h, inside, all, inr d) e k f =
    let ev : front ++ back ≡ identifier tag' ++ (128 ∷ (inside ++ (0 ∷ 0 ∷ back))) = rw d (simp append_assoc) in
    let i = identifier-inj tag' tag (128 ∷ (inside ++ (0 ∷ 0 ∷ back))) (128 ∷ rest') h.small k.small (sym ev ∙ sym e ∙ f) in
    let i1 = i.1 in
    let l = trees-list_of children in
    (list_of children, inside, ap (λ u. Constructed u children) i.0 ∙ ap (Constructed tag) (sym l), rw l all, cc)

-- contents that begin with an element
pub Closes-first : (form : Option (List ℕ)) (octets front rest after : List ℕ) (u : Tree) (ts : List Tree) → Closes form octets ts after
    → Spells front u → octets ≡ front ++ rest → (vs : List Tree) × (ts ≡ u ∷ vs) × Closes form rest vs after
Closes-first (Some known) octets front rest after u [] c s e = absurd (Spells-no_end u front rest [] s (sym e ∙ c.0) tt)
Closes-first (Some known) octets front rest after u (t ∷ vs) ((front', back', st, sts, split), k) s e =
    let i = Spells-inj u t front front' rest back' s st (sym e ∙ split) in
    let i0 = i.0 in
    (vs, cc, (rw i.1 sts, k))
Closes-first None octets front rest after u [] (contents, c, split) s e =
    absurd (Spells-no_end u front rest (0 ∷ 0 ∷ after) s (sym e ∙ split ∙ ap (λ z. z ++ (0 ∷ 0 ∷ after)) c) refl)
Closes-first None octets front rest after u (t ∷ vs) (contents, (front', back', st, sts, split'), split) s e =
    let f : octets ≡ front' ++ (back' ++ (0 ∷ 0 ∷ after)) = split ∙ rw split' (simp append_assoc) in
    let i = Spells-inj u t front front' rest (back' ++ (0 ∷ 0 ∷ after)) s st (sym e ∙ f) in
    let i0 = i.0 in
    (vs, cc, (back', sts, i.1))

pub Closes-more : (form : Option (List ℕ)) (octets front rest after : List ℕ) (u : Tree) (ts : List Tree) → Closes form rest ts after
    → Spells front u → octets ≡ front ++ rest → Closes form octets (u ∷ ts) after
Closes-more (Some known) octets front rest after u ts (c, k) s e = ((front, rest, s, c, e), k)
Closes-more None octets front rest after u ts (contents, c, split) s e =
    (front ++ contents, (front, contents, s, c, refl), e ∙ rw split (simp append_assoc))

-- contents that end here have no element
pub Closes-end : (form : Option (List ℕ)) (octets after after' : List ℕ) (ts : List Tree) → Closes form octets [] after → Closes form octets ts after'
    → (ts ≡ []) × (after' ≡ after)
Closes-end (Some known) octets after after' [] c d = (refl, sym d.1 ∙ c.1)
Closes-end (Some known) octets after after' (t ∷ ts) c ((front, back, st, sts, split), k) =
    absurd (Spells-no_end t front back [] st (sym split ∙ c.0) tt)
Closes-end None octets after after' [] (contents, c, split) (contents', c', split') =
    let f : 0 ∷ 0 ∷ after ≡ 0 ∷ 0 ∷ after' = sym (split ∙ ap (λ z. z ++ (0 ∷ 0 ∷ after)) c) ∙ split' ∙ ap (λ z. z ++ (0 ∷ 0 ∷ after')) c' in
    (refl, cc)
Closes-end None octets after after' (t ∷ ts) (contents, c, split) (contents', (front, back, st, sts, split''), split') =
    let f : front ++ (back ++ (0 ∷ 0 ∷ after')) ≡ 0 ∷ 0 ∷ after =
    sym (split' ∙ rw split'' (simp append_assoc)) ∙ split ∙ ap (λ z. z ++ (0 ∷ 0 ∷ after)) c in
    absurd (Spells-no_end t front (back ++ (0 ∷ 0 ∷ after')) (0 ∷ 0 ∷ after) st f refl)

-- contents that neither end here nor begin with an element
pub Closes-stuck : (form : Option (List ℕ)) (octets after : List ℕ) (ts : List Tree) → ((rest : List ℕ) → Closes form octets [] rest → ⊥)
    → BeginsNoElement octets → Closes form octets ts after → ⊥
Closes-stuck form octets after [] no_end no_head c = no_end after c
Closes-stuck (Some known) octets after (t ∷ ts) no_end no_head ((front, back, st, sts, split), k) = no_head t front back st split
Closes-stuck None octets after (t ∷ ts) no_end no_head (contents, (front, back, st, sts, split'), split) =
    no_head t front (back ++ (0 ∷ 0 ∷ after)) st (split ∙ rw split' (simp append_assoc))

-- contents at whose front an element has begun
pub Closes-opened : (form : Option (List ℕ)) (octets back after : List ℕ) (ts : List Tree) (c : Bool) (tag : Tag) → Closes form octets ts after
    → IsTag c tag → octets ≡ identifier tag ++ back
    → (v : Tree) × (vs : List Tree) × (front : List ℕ) × (rest : List ℕ) × (ts ≡ v ∷ vs) × Spells front v × (octets ≡ front ++ rest) × Closes form rest vs after
Closes-opened (Some known) octets back after [] b tag c h e = absurd (identifier-no_end b tag back [] h (sym e ∙ c.0) tt)
Closes-opened None octets back after [] b tag (contents, c, split) h e =
    absurd (identifier-no_end b tag back (0 ∷ 0 ∷ after) h (sym e ∙ split ∙ ap (λ z. z ++ (0 ∷ 0 ∷ after)) c) refl)
Closes-opened (Some known) octets back after (v ∷ vs) b tag ((front, rest, sv, svs, split), k) h e =
    (v, vs, front, rest, refl, sv, split, (svs, k))
Closes-opened None octets back after (v ∷ vs) b tag (contents, (front, rest, sv, svs, split'), split) h e =
    (v, vs, front, rest ++ (0 ∷ 0 ∷ after), refl, sv, split ∙ rw split' (simp append_assoc), (rest, svs, refl))
