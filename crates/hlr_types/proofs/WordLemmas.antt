-- Words and their digits.
use Rattle.std.proofs.Common.{◌≡◌, ℕ, zero, suc, ◌+◌, ◌-◌, ◌*◌, ◌^◌, ◌<◌, ◌≤◌, false, eqb, List, [], ◌∷◌, length, refl, sym, ap, ◌∙◌, arith, ◌⊎◌, inl, inr, subst}
use Rattle.std.proofs.Math.Nat.{pow-suc, zero-div, mul_comm, le-mul_of_pos_right}
use Rattle.std.proofs.lemmas.Nat.{div-mul-add, mod-mul-add, mul-add-lt}
use Rattle.std.proofs.lemmas.Bool.{cases_order}
use Rattle.std.proofs.lemmas.Bool.Decides.{nat_tests}
use Rattle.std.specs.declared.cmp.Ordering.TheVariants.{Less, Equal, Greater}
use Rattle.std.specs.Ordering.{nat_cmp, ordering_then, is_eq}
use Rattle.std.specs.Cmp.Lexicographic.{slice_cmp}
use Rattle.std.specs.List.{AllByRecursion}
use Rattle.hlr_types.specs.Digits.{AreSomeDigits}
use Rattle.std.specs.Prelude.{bytes_eq}
use Rattle.std.specs.Cmp.{unsigned_tied}
use Rattle.std.proofs.lemmas.Map.Text.{is_eq-slice_cmp}
use Rattle.hlr_types.specs.Orders.{octets_cmp}
use Rattle.hlr_types.specs.Words.{packed, unpacked, word_of, in_word, IsWord}

-- A power of 16 is a place.
pub place_pos : (n : ℕ) → 0 < 16 ^ n
place_pos zero = omega arith
place_pos (suc n) = omega (arith, place_pos n, pow-suc 16 n)

pub packed_lt : (n : ℕ) (ds : List ℕ) → AllByRecursion (λ d. d < 10) ds → packed n ds < 16 ^ n
packed_lt zero ds h = omega arith
packed_lt (suc n) [] h = place_pos (suc n)
packed_lt (suc n) (d ∷ ds) h =
    let e : (d + 1) * 16 ^ n + packed n ds < 16 ^ n * 16 = mul-add-lt (d + 1) (16 ^ n) (packed n ds) 16 (omega (arith, h.0)) (packed_lt n ds h.1) in
    omega (arith, e, pow-suc 16 n)

-- What was packed is found again.
pub unpacked-packed : (n : ℕ) (ds : List ℕ) → length ds ≤ n → AllByRecursion (λ d. d < 10) ds → unpacked n (packed n ds) ≡ ds
unpacked-packed zero [] len h = refl
unpacked-packed zero (d ∷ ds) len h = absurd (omega arith)
unpacked-packed (suc n) [] len h = rw (zero-div (16 ^ n)) refl
unpacked-packed (suc n) (d ∷ ds) len h =
    let small = packed_lt n ds h.1 in
    let q = div-mul-add (d + 1) (16 ^ n) (packed n ds) small in
    let m = mod-mul-add (d + 1) (16 ^ n) (packed n ds) small in
    let t : eqb (d + 1) 0 ≡ false = grind (arith, nat_tests) in
    let s : (d + 1) - 1 ≡ d = omega arith in
    rw (q, m, t, s, unpacked-packed n ds (omega (arith, len)) h.1) refl

-- ---- order

pub less : (a b : ℕ) → a < b → nat_cmp a b ≡ Less
less a b h = grind (arith, nat_tests)

pub greater : (a b : ℕ) → b < a → nat_cmp a b ≡ Greater
greater a b h = grind (arith, nat_tests)

pub equal : (a b : ℕ) → a ≡ b → nat_cmp a b ≡ Equal
equal a b h = grind (arith, nat_tests)

pub beyond : (c a b : ℕ) → nat_cmp (c + a) (c + b) ≡ nat_cmp a b
beyond c a b = grind (arith, nat_tests)

-- The highest digit decides, and then the rest.
pub highest : (p x y r s : ℕ) → r < p → s < p → nat_cmp ((x + 1) * p + r) ((y + 1) * p + s) ≡ ordering_then (nat_cmp x y) (nat_cmp r s)
highest p x y r s hr hs = by_order (cases_order x y)
  where
    by_order : (x ≡ y) ⊎ ((x < y) ⊎ (y < x)) → nat_cmp ((x + 1) * p + r) ((y + 1) * p + s) ≡ ordering_then (nat_cmp x y) (nat_cmp r s)
    by_order (inl e) = rw (e, equal y y refl) (beyond ((y + 1) * p) r s)
    by_order (inr (inl lt)) =
        let b = mul-add-lt (x + 1) p r (y + 1) (omega arith) hr in
        let c : (x + 1) * p + r < (y + 1) * p + s = omega (arith, b, mul_comm p (y + 1)) in
        rw (less _ _ c, less x y lt) refl
    by_order (inr (inr gt)) =
        let b = mul-add-lt (y + 1) p s (x + 1) (omega arith) hs in
        let c : (y + 1) * p + s < (x + 1) * p + r = omega (arith, b, mul_comm p (x + 1)) in
        rw (greater _ _ c, greater x y gt) refl

pub above : (d p r : ℕ) → 0 < p → 0 < (d + 1) * p + r
above d p r h =
    let one : 0 < d + 1 = omega arith in
    let e : p ≤ p * (d + 1) = le-mul_of_pos_right p one in
    omega (arith, h, e, mul_comm p (d + 1))

pub packed_cmp : (n : ℕ) (xs ys : List ℕ) → length xs ≤ n → length ys ≤ n → AllByRecursion (λ d. d < 10) xs → AllByRecursion (λ d. d < 10) ys
    → nat_cmp (packed n xs) (packed n ys) ≡ slice_cmp nat_cmp xs ys
packed_cmp zero [] [] lx ly hx hy = refl
packed_cmp zero [] (y ∷ ys) lx ly hx hy = absurd (omega arith)
packed_cmp zero (x ∷ xs) ys lx ly hx hy = absurd (omega arith)
packed_cmp (suc n) [] [] lx ly hx hy = refl
packed_cmp (suc n) [] (y ∷ ys) lx ly hx hy = less _ _ (above y (16 ^ n) (packed n ys) (place_pos n))
packed_cmp (suc n) (x ∷ xs) [] lx ly hx hy = greater _ _ (above x (16 ^ n) (packed n xs) (place_pos n))
packed_cmp (suc n) (x ∷ xs) (y ∷ ys) lx ly hx hy =
    highest (16 ^ n) x y (packed n xs) (packed n ys) (packed_lt n xs hx.1) (packed_lt n ys hy.1)
    ∙ ap (ordering_then (nat_cmp x y)) (packed_cmp n xs ys (omega (arith, lx)) (omega (arith, ly)) hx.1 hy.1)

-- ---- words

pub in_word-word_of : (ds : List ℕ) → AreSomeDigits ds → in_word (word_of ds) ≡ ds
unfolding in_word word_of
in_word-word_of ds some = unpacked-packed 16 ds some.most some.each

pub word_cmp : (xs ys : List ℕ) → AreSomeDigits xs → AreSomeDigits ys → nat_cmp (word_of xs) (word_of ys) ≡ octets_cmp xs ys
unfolding word_of
word_cmp xs ys hx hy = packed_cmp 16 xs ys hx.most hy.most hx.each hy.each

pub is_word : (ds : List ℕ) → AreSomeDigits ds → IsWord (word_of ds)
is_word ds some =
    let e = in_word-word_of ds some in
    record { digits = subst AreSomeDigits (sym e) some; whole = ap word_of e }

-- Well formed words are compared as their digits are.
pub in_word_cmp : (v w : ℕ) → IsWord v → IsWord w → nat_cmp v w ≡ octets_cmp (in_word v) (in_word w)
in_word_cmp v w hv hw =
    ap (λ x. nat_cmp x w) (sym hv.whole) ∙ ap (nat_cmp (word_of (in_word v))) (sym hw.whole)
    ∙ word_cmp (in_word v) (in_word w) hv.digits hw.digits

pub in_word_eq : (v w : ℕ) → IsWord v → IsWord w → eqb v w ≡ bytes_eq (in_word v) (in_word w)
in_word_eq v w hv hw = sym (unsigned_tied v w) ∙ ap is_eq (in_word_cmp v w hv hw) ∙ is_eq-slice_cmp (in_word v) (in_word w)

pub ruleset word_order = (in_word_cmp, in_word_eq)
