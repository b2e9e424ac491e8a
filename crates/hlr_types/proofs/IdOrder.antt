-- Local ids are in the order of their octets as numbers.
use Rattle.std.proofs.Common.{◌≡◌, ℕ, ◌+◌, ◌*◌, ◌<◌, List, [], ◌∷◌, refl, ap, ◌∙◌, arith, ◌⊎◌, inl, inr}
use Rattle.std.proofs.Math.Nat.{mul_comm}
use Rattle.std.proofs.lemmas.Nat.{mul-add-lt}
use Rattle.std.proofs.lemmas.Bool.{cases_order}
use Rattle.std.specs.declared.cmp.Ordering.{Ordering}
use Rattle.std.specs.declared.cmp.Ordering.TheVariants.{Less, Equal, Greater}
use Rattle.std.specs.Ordering.{nat_cmp, ordering_then}
use Rattle.std.specs.Cmp.Lexicographic.{slice_cmp}
use Rattle.hlr_types.specs.Ids.{word_of_id, AreFourOctets}
use Rattle.hlr_types.proofs.WordLemmas.{less, greater, equal, beyond}

-- The high part decides, and then the low one.
high_first : (p x y r s : ℕ) → r < p → s < p → nat_cmp (x * p + r) (y * p + s) ≡ ordering_then (nat_cmp x y) (nat_cmp r s)
high_first p x y r s hr hs = by_order (cases_order x y)
  where
    by_order : (x ≡ y) ⊎ ((x < y) ⊎ (y < x)) → nat_cmp (x * p + r) (y * p + s) ≡ ordering_then (nat_cmp x y) (nat_cmp r s)
    by_order (inl e) = rw (e, equal y y refl) (beyond (y * p) r s)
    by_order (inr (inl lt)) =
        let b = mul-add-lt x p r y lt hr in
        let c : x * p + r < y * p + s = omega (arith, b, mul_comm p y) in
        rw (less _ _ c, less x y lt) refl
    by_order (inr (inr gt)) =
        let b = mul-add-lt y p s x gt hs in
        let c : y * p + s < x * p + r = omega (arith, b, mul_comm p x) in
        rw (greater _ _ c, greater x y gt) refl

then_equal : (r : Ordering) → r ≡ ordering_then r Equal
then_equal Less = refl
then_equal Equal = refl
then_equal Greater = refl

low_order : (c d g h : ℕ) → d < 256 → h < 256 → nat_cmp (c * 256 + d) (g * 256 + h) ≡ slice_cmp nat_cmp (c ∷ d ∷ []) (g ∷ h ∷ [])
low_order c d g h hd hh = high_first 256 c g d h hd hh ∙ ap (ordering_then (nat_cmp c g)) (then_equal (nat_cmp d h))

four_order : (a b c d e f g h : ℕ) → b < 256 → c < 256 → d < 256 → f < 256 → g < 256 → h < 256
    → nat_cmp (a * 16777216 + (b * 65536 + (c * 256 + d))) (e * 16777216 + (f * 65536 + (g * 256 + h)))
    ≡ slice_cmp nat_cmp (a ∷ b ∷ c ∷ d ∷ []) (e ∷ f ∷ g ∷ h ∷ [])
four_order a b c d e f g h hb hc hd hf hg hh =
    high_first 16777216 a e (b * 65536 + (c * 256 + d)) (f * 65536 + (g * 256 + h)) (omega (arith, hb, hc, hd)) (omega (arith, hf, hg, hh))
    ∙ ap (ordering_then (nat_cmp a e))
    (high_first 65536 b f (c * 256 + d) (g * 256 + h) (omega (arith, hc, hd)) (omega (arith, hg, hh))
    ∙ ap (ordering_then (nat_cmp b f)) (low_order c d g h hd hh))

with_four : (a b c d : ℕ) (q : List ℕ) → AreFourOctets (a ∷ b ∷ c ∷ d ∷ []) → AreFourOctets q
    → nat_cmp (word_of_id (a ∷ b ∷ c ∷ d ∷ [])) (word_of_id q) ≡ slice_cmp nat_cmp (a ∷ b ∷ c ∷ d ∷ []) q
with_four a b c d [] p o = absurd (omega (arith, o.four))
with_four a b c d (e ∷ []) p o = absurd (omega (arith, o.four))
with_four a b c d (e ∷ f ∷ []) p o = absurd (omega (arith, o.four))
with_four a b c d (e ∷ f ∷ g ∷ []) p o = absurd (omega (arith, o.four))
with_four a b c d (e ∷ f ∷ g ∷ h ∷ i ∷ is) p o = absurd (omega (arith, o.four))
with_four a b c d (e ∷ f ∷ g ∷ h ∷ []) p o = four_order a b c d e f g h p.second p.third p.fourth o.second o.third o.fourth

-- The numbers are in the order of the octets.
pub id_cmp : (p q : List ℕ) → AreFourOctets p → AreFourOctets q → nat_cmp (word_of_id p) (word_of_id q) ≡ slice_cmp nat_cmp p q
id_cmp [] q p o = absurd (omega (arith, p.four))
id_cmp (a ∷ []) q p o = absurd (omega (arith, p.four))
id_cmp (a ∷ b ∷ []) q p o = absurd (omega (arith, p.four))
id_cmp (a ∷ b ∷ c ∷ []) q p o = absurd (omega (arith, p.four))
id_cmp (a ∷ b ∷ c ∷ d ∷ e ∷ es) q p o = absurd (omega (arith, p.four))
id_cmp (a ∷ b ∷ c ∷ d ∷ []) q p o = with_four a b c d q p o

-- The same, of words that are told.
pub told_order : (p q : List ℕ) (v w : ℕ) → v ≡ word_of_id p → w ≡ word_of_id q → AreFourOctets p → AreFourOctets q → nat_cmp v w ≡ slice_cmp nat_cmp p q
told_order p q v w ev ew hp hq = rw (ev, ew) (id_cmp p q hp hq)
