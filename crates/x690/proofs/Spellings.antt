-- No spelling is a prefix of another, and what is sent is a spelling.
use Rattle.std.proofs.Common.{◌≡◌, ◌≤◌, ℕ, ◌+◌, ◌^◌, ◌<◌, ◌⊎◌, inl, inr, Bool, true, false, List, [], ◌∷◌, ◌++◌, length, refl, sym, ◌∙◌, ap, arith, append_assoc, length-append}
use Rattle.x690.specs.Identifier.{IsTag, identifier}
use Rattle.x690.specs.Length.{IsLength, length_octets}
use Rattle.x690.specs.Tree.{Tree, Trees, Primitive, Constructed, Empty, More, HasTags, AllHaveTags}
use Rattle.x690.specs.Spelling.{Definite, Indefinite, Spells, SpellsAll, definite, enc, enc_all}
use Rattle.x690.specs.Laws.{OneTree}
use Rattle.x690.specs.declared.Tag.{Tag}
use Rattle.x690.proofs.Identifiers.{identifier-bound, identifier-inj, identifier-starts, identifier-not-empty}
use Rattle.x690.proofs.Lengths.{append-inj, append-cancel, IsLength-inj, IsLength-not-128, IsLength-length_octets, length_octets-bound}

-- two definite forms, one in front of the other: they are one
pub Definite-inj : (b c : Bool) (t u : Tag) (v w x y p q : List ℕ) → IsTag b t → IsTag c u → Definite v t p → Definite w u q
    → v ++ x ≡ w ++ y → (t ≡ u) × (p ≡ q) × (x ≡ y)
Definite-inj b c t u v w x y p q ht hu dv dw e =
    let ev : v ++ x ≡ identifier t ++ (dv.0 ++ (p ++ x)) = rw (dv.2) (simp append_assoc) in
    let ew : w ++ y ≡ identifier u ++ (dw.0 ++ (q ++ y)) = rw (dw.2) (simp append_assoc) in
    let i = identifier-inj t u (dv.0 ++ (p ++ x)) (dw.0 ++ (q ++ y)) ht.small hu.small (sym ev ∙ e ∙ ew) in
    let l = IsLength-inj dv.0 dw.0 (p ++ x) (q ++ y) (length p) (length q) dv.1 dw.1 i.1 in
    let r = append-inj p q x y (l.0) (l.1) in
    (i.0, r.0, r.1)

-- a definite form and an indefinite one: never
pub Definite-not-Indefinite : (b c : Bool) (t u : Tag) (v w x y p q : List ℕ) → IsTag b t → IsTag c u → Definite v t p → Indefinite w u q
    → v ++ x ≡ w ++ y → ⊥
Definite-not-Indefinite b c t u v w x y p q ht hu dv dw e =
    let ev : v ++ x ≡ identifier t ++ (dv.0 ++ (p ++ x)) = rw (dv.2) (simp append_assoc) in
    let ew : w ++ y ≡ identifier u ++ (128 ∷ (q ++ (0 ∷ 0 ∷ y))) = rw dw (simp append_assoc) in
    let i = identifier-inj t u (dv.0 ++ (p ++ x)) (128 ∷ (q ++ (0 ∷ 0 ∷ y))) ht.small hu.small (sym ev ∙ e ∙ ew) in
    IsLength-not-128 dv.0 (p ++ x) (q ++ (0 ∷ 0 ∷ y)) (length p) dv.1 i.1

-- two indefinite forms: their contents end with 00 00
Indefinite-inj : (b c : Bool) (t u : Tag) (v w x y p q : List ℕ) → IsTag b t → IsTag c u → Indefinite v t p → Indefinite w u q
    → v ++ x ≡ w ++ y → (t ≡ u) × (p ++ (0 ∷ 0 ∷ x) ≡ q ++ (0 ∷ 0 ∷ y))
Indefinite-inj b c t u v w x y p q ht hu dv dw e =
    let ev : v ++ x ≡ identifier t ++ (128 ∷ (p ++ (0 ∷ 0 ∷ x))) = rw dv (simp append_assoc) in
    let ew : w ++ y ≡ identifier u ++ (128 ∷ (q ++ (0 ∷ 0 ∷ y))) = rw dw (simp append_assoc) in
    let i = identifier-inj t u (128 ∷ (p ++ (0 ∷ 0 ∷ x))) (128 ∷ (q ++ (0 ∷ 0 ∷ y))) ht.small hu.small (sym ev ∙ e ∙ ew) in
    let i1 = i.1 in
    (i.0, cc)

-- a text at which no element begins
abbrev pub IsEnd : List ℕ → Type 0
IsEnd [] = Unit {0}
IsEnd (octet ∷ octets) = octet ≡ 0

pub identifier-no_end : (c : Bool) (t : Tag) (x y : List ℕ) → IsTag c t → identifier t ++ x ≡ y → IsEnd y → ⊥
identifier-no_end c t x [] h e end = identifier-not-empty t x e
identifier-no_end c t x (o ∷ os) h e end = identifier-starts c t x os h (cc (e, end))

Definite-no_end : (c : Bool) (t : Tag) (v x y p : List ℕ) → IsTag c t → Definite v t p → v ++ x ≡ y → IsEnd y → ⊥
Definite-no_end c t v x y p h d e end =
    let ev : v ++ x ≡ identifier t ++ (d.0 ++ (p ++ x)) = rw (d.2) (simp append_assoc) in
    identifier-no_end c t (d.0 ++ (p ++ x)) y h (sym ev ∙ e) end

Indefinite-no_end : (c : Bool) (t : Tag) (v x y p : List ℕ) → IsTag c t → Indefinite v t p → v ++ x ≡ y → IsEnd y → ⊥
Indefinite-no_end c t v x y p h d e end =
    let ev : v ++ x ≡ identifier t ++ (128 ∷ (p ++ (0 ∷ 0 ∷ x))) = rw d (simp append_assoc) in
    identifier-no_end c t (128 ∷ (p ++ (0 ∷ 0 ∷ x))) y h (sym ev ∙ e) end

pub Spells-no_end : (t : Tree) (v x y : List ℕ) → Spells v t → v ++ x ≡ y → IsEnd y → ⊥
Spells-no_end (Primitive tag contents) v x y s e end = Definite-no_end false tag v x y contents s.0 s.1 e end
Spells-no_end (Constructed tag children) v x y (h, contents, all, inl d) e end = Definite-no_end true tag v x y contents h d e end
Spells-no_end (Constructed tag children) v x y (h, contents, all, inr d) e end = Indefinite-no_end true tag v x y contents h d e end

pub tags-differ : (t u : Tag) → IsTag false t → IsTag true u → t ≡ u → ⊥
tags-differ t u h k e = let f : t.constructed ≡ u.constructed = cc in let a = h.kind in let b = k.kind in cc

-- the trees of two texts in a row, in front of what begins no element
mutual
  pub Spells-inj : (t u : Tree) (a b x y : List ℕ) → Spells a t → Spells b u → a ++ x ≡ b ++ y → (t ≡ u) × (x ≡ y)
  Spells-inj (Primitive tag contents) (Primitive tag' contents') a b x y s r e =
      let i = Definite-inj false false tag tag' a b x y contents contents' s.0 r.0 s.1 r.1 e in
      let i0 = i.0 in let i1 = i.1 in
      (cc, i.2)
  Spells-inj (Primitive tag contents) (Constructed tag' children) a b x y s (h, contents', all, inl d) e =
      absurd (tags-differ tag tag' s.0 h (Definite-inj false true tag tag' a b x y contents contents' s.0 h s.1 d e).0)
  Spells-inj (Primitive tag contents) (Constructed tag' children) a b x y s (h, contents', all, inr d) e =
      absurd (Definite-not-Indefinite false true tag tag' a b x y contents contents' s.0 h s.1 d e)
  Spells-inj (Constructed tag children) (Primitive tag' contents') a b x y (h, contents, all, inl d) r e =
      absurd (tags-differ tag' tag r.0 h (sym (Definite-inj true false tag tag' a b x y contents contents' h r.0 d r.1 e).0))
  Spells-inj (Constructed tag children) (Primitive tag' contents') a b x y (h, contents, all, inr d) r e =
      absurd (Definite-not-Indefinite false true tag' tag b a y x contents' contents r.0 h r.1 d (sym e))
  Spells-inj (Constructed tag children) (Constructed tag' children') a b x y (h, contents, all, inl d) (h', contents', all', inl d') e =
      let i = Definite-inj true true tag tag' a b x y contents contents' h h' d d' e in
      let j = SpellsAll-inj children children' contents contents' [] [] all all' (ap (λ z. z ++ []) i.1) tt tt in
      let i0 = i.0 in let j0 = j.0 in
      (cc, i.2)
  Spells-inj (Constructed tag children) (Constructed tag' children') a b x y (h, contents, all, inl d) (h', contents', all', inr d') e =
      absurd (Definite-not-Indefinite true true tag tag' a b x y contents contents' h h' d d' e)
  Spells-inj (Constructed tag children) (Constructed tag' children') a b x y (h, contents, all, inr d) (h', contents', all', inl d') e =
      absurd (Definite-not-Indefinite true true tag' tag b a y x contents' contents h' h d' d (sym e))
  Spells-inj (Constructed tag children) (Constructed tag' children') a b x y (h, contents, all, inr d) (h', contents', all', inr d') e =
      let i = Indefinite-inj true true tag tag' a b x y contents contents' h h' d d' e in
      let j = SpellsAll-inj children children' contents contents' (0 ∷ 0 ∷ x) (0 ∷ 0 ∷ y) all all' i.1 refl refl in
      let i0 = i.0 in let j0 = j.0 in let j1 = j.1 in
      (cc, cc)

  SpellsAll-inj : (ts us : Trees) (a b x y : List ℕ) → SpellsAll a ts → SpellsAll b us → a ++ x ≡ b ++ y → IsEnd x → IsEnd y → (ts ≡ us) × (x ≡ y)
  SpellsAll-inj Empty Empty a b x y s r e ex ey =
      (refl, ap (λ z. z ++ x) (sym s) ∙ e ∙ ap (λ z. z ++ y) r)
  SpellsAll-inj Empty (More u us) a b x y s (front, back, su, sus, split) e ex ey =
      let f : front ++ (back ++ y) ≡ x = sym (append_assoc front back y) ∙ ap (λ z. z ++ y) (sym split) ∙ sym e ∙ ap (λ z. z ++ x) s in
      absurd (Spells-no_end u front (back ++ y) x su f ex)
  SpellsAll-inj (More t ts) Empty a b x y (front, back, st, sts, split) r e ex ey =
      let f : front ++ (back ++ x) ≡ y = sym (append_assoc front back x) ∙ ap (λ z. z ++ x) (sym split) ∙ e ∙ ap (λ z. z ++ y) r in
      absurd (Spells-no_end t front (back ++ x) y st f ey)
  SpellsAll-inj (More t ts) (More u us) a b x y (front, back, st, sts, split) (front', back', su, sus, split') e ex ey =
      let f : front ++ (back ++ x) ≡ front' ++ (back' ++ y) =
      sym (append_assoc front back x) ∙ ap (λ z. z ++ x) (sym split) ∙ e ∙ ap (λ z. z ++ y) split' ∙ append_assoc front' back' y in
      let i = Spells-inj t u front front' (back ++ x) (back' ++ y) st su f in
      let j = SpellsAll-inj ts us back back' x y sts sus i.1 ex ey in
      let i0 = i.0 in let j0 = j.0 in
      (cc, j.1)

pub one_tree : OneTree
one_tree a b x y t u s r e =
    let i = Spells-inj t u a b x y s r e in
    (append-cancel a b x (e ∙ ap (λ z. b ++ z) (sym i.1)), i.0)

-- what is sent is a spelling
pub definite-longer : (tag : Tag) (contents : List ℕ) → length (definite tag contents) < 2 ^ 32 → length contents < 2 ^ 32
definite-longer tag contents h =
    let a = length-append (identifier tag) (length_octets (length contents) ++ contents) in
    let b = length-append (length_octets (length contents)) contents in
    omega arith

definite-Definite : (tag : Tag) (contents : List ℕ) → length (definite tag contents) < 2 ^ 32 → Definite (definite tag contents) tag contents
definite-Definite tag contents h =
    let n = definite-longer tag contents h in
    (length_octets (length contents), IsLength-length_octets (length contents) n, refl)

mutual
  pub enc_spells : (t : Tree) → HasTags t → length (enc t) < 2 ^ 32 → Spells (enc t) t
  enc_spells (Primitive tag contents) h n = (h, definite-Definite tag contents n)
  enc_spells (Constructed tag children) (h, hs) n =
      let d = definite-Definite tag (enc_all children) n in
      (h, enc_all children, enc_all_spells children hs (definite-longer tag (enc_all children) n), inl d)

  pub enc_all_spells : (ts : Trees) → AllHaveTags ts → length (enc_all ts) < 2 ^ 32 → SpellsAll (enc_all ts) ts
  enc_all_spells Empty h n = refl
  enc_all_spells (More t ts) (h, hs) n =
      let e = length-append (enc t) (enc_all ts) in
      (enc t, enc_all ts, enc_spells t h (omega arith), enc_all_spells ts hs (omega arith), refl)

-- the head that a spelling begins with: its tag, and then a length and that many octets, or 80
pub record Headed (octets : List ℕ) : Type 0 where
  pub constructed : Bool
  pub tag : Tag
  pub is_tag : IsTag constructed tag
  pub form :
      ((size : List ℕ) × (contents : List ℕ) × (after : List ℕ) × IsLength size (length contents) × (octets ≡ identifier tag ++ (size ++ (contents ++ after))))
      ⊎ ((constructed ≡ true) × (after : List ℕ) × (octets ≡ identifier tag ++ (128 ∷ after)))

Definite-headed : (c : Bool) (tag : Tag) (octets front contents rest : List ℕ) → IsTag c tag → Definite front tag contents → octets ≡ front ++ rest
    → Headed octets
Definite-headed c tag octets front contents rest h d e = record {
  constructed = c;
  tag = tag;
  is_tag = h;
  form = inl (d.0, contents, rest, d.1, e ∙ rw (d.2) (simp append_assoc));
}

pub Spells-headed : (t : Tree) (octets front rest : List ℕ) → Spells front t → octets ≡ front ++ rest → Headed octets
Spells-headed (Primitive tag contents) octets front rest (h, d) e = Definite-headed false tag octets front contents rest h d e
Spells-headed (Constructed tag children) octets front rest (h, contents, all, inl d) e = Definite-headed true tag octets front contents rest h d e
Spells-headed (Constructed tag children) octets front rest (h, contents, all, inr d) e = record {
  constructed = true;
  tag = tag;
  is_tag = h;
  form = inr (refl, contents ++ (0 ∷ 0 ∷ rest), e ∙ rw d (simp append_assoc));
}

pub Spells-unique : (octets : List ℕ) (t u : Tree) → Spells octets t → Spells octets u → t ≡ u
Spells-unique octets t u s r = (Spells-inj t u octets octets [] [] s r refl).0

-- what a tag and a length add
pub definite-bound : (tag : Tag) (contents : List ℕ) → length (definite tag contents) ≤ length contents + 11
definite-bound tag contents =
    let a = length-append (identifier tag) (length_octets (length contents) ++ contents) in
    let b = length-append (length_octets (length contents)) contents in
    let i = identifier-bound tag in
    let l = length_octets-bound (length contents) in
    omega arith
