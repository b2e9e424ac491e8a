-- Ascending lists of numbers, and whether a number occurs in them twice.
use Rattle.std.proofs.Common.{◌≡◌, ◌≢◌, ℕ, zero, suc, ◌+◌, ◌<◌, ◌≤◌, eqb, ne_eqb, cond, Bool, true, false, List, [], ◌∷◌, length, map, get_or, sym, refl, ap, ap₂, ◌∙◌, subst, arith, add-one}
use Rattle.std.specs.List.Sorted.{IsPermutation, IsStrictlyIncreasing, IsNonDecreasingBy}
use Rattle.std.proofs.lemmas.List.Sorted.{sum_by-IsPermutation}
use Rattle.std.proofs.lemmas.List.{get_or-map, length-map}
use Rattle.std.proofs.lemmas.Bool.Decides.{nat_tests}
use Rattle.frames_laws.proofs.Counts.{count, count-cons, one_at, one_at-same}
use Rattle.receipts.specs.Numbers.{AreApart}

twice : (ys : List ℕ) (k : ℕ) → suc k < length ys → get_or ys k 0 ≡ get_or ys (suc k) 0 → 2 ≤ count (get_or ys k 0) ys
twice [] k low same = absurd (omega arith)
twice (y ∷ []) k low same = absurd (omega arith)
twice (y ∷ z ∷ ys) zero low same =
    let a = count-cons y y (z ∷ ys) in let b = count-cons y z ys in let c = one_at-same y in
    let d : one_at y z ≡ 1 = ap (one_at y) (sym same) ∙ one_at-same y in omega arith
twice (y ∷ z ∷ ys) (suc k) low same =
    let n = get_or (z ∷ ys) k 0 in
    let rest = twice (z ∷ ys) k (omega arith) same in let a = count-cons n y (z ∷ ys) in omega arith

pub rising : (ys : List ℕ) → ((k : ℕ) → k + 1 < length ys → get_or ys k 0 ≤ get_or ys (k + 1) 0) → AreApart ys → IsStrictlyIncreasing ys
rising ys up apart k low =
    let once = apart (get_or ys k 0) in let le = up k low in
    let apart_here : get_or ys k 0 ≢ get_or ys (k + 1) 0 = λ same. let two = twice ys k (omega arith)
    (subst (λ j. get_or ys k 0 ≡ get_or ys j 0) (add-one k) same) in omega arith in
    omega arith

-- a rearranged list keeps its numbers apart
pub apart_moved : (xs ys : List ℕ) → IsPermutation xs ys → AreApart xs → AreApart ys
apart_moved xs ys moved apart n = let a = sum_by-IsPermutation (one_at n) xs ys moved in let b = apart n in omega arith

-- the keys of a list that is sorted by them
pub rising_keys : {X : Type 0} (key : X → ℕ) (xs : List X) → IsNonDecreasingBy key xs → (k : ℕ) → k + 1 < length (map key xs)
    → get_or (map key xs) k 0 ≤ get_or (map key xs) (k + 1) 0
rising_keys key [] sorted k low = absurd (omega arith)
rising_keys key (x ∷ xs) sorted k low =
    let len = length-map (x ∷ xs) key in
    let le = sorted k (k + 1) x (omega arith) (omega arith) in
    let a = get_or-map key (x ∷ xs) k x 0 (omega arith) in let b = get_or-map key (x ∷ xs) (k + 1) x 0 (omega arith) in omega arith

rising_tail : (x : ℕ) (xs : List ℕ) → IsStrictlyIncreasing (x ∷ xs) → IsStrictlyIncreasing xs
rising_tail x xs h k low = let P : ℕ → ℕ → Type 0 = λ a b. get_or (x ∷ xs) a 0 < get_or (x ∷ xs) b 0 in subst (λ (p : ℕ × ℕ). P p.0 p.1)
    (λ i. (add-one k i, (add-one (k + 1)) i)) (h (k + 1) (omega arith))

count_above : (n x : ℕ) (xs : List ℕ) → n ≤ x → IsStrictlyIncreasing (x ∷ xs) → count n xs ≡ 0
count_above n x [] le h = refl
count_above n x (y ∷ ys) le h =
    let up : x < y = h 0 (omega arith) in
    let here : one_at n y ≡ 0 = ap (λ b. cond b 1 0) (ne_eqb y n (λ same. omega arith)) in
    let rest = count_above n y ys (omega arith) (rising_tail x (y ∷ ys) h) in
    let a = count-cons n y ys in omega arith

-- no number occurs twice in an ascending list
pub apart_rising : (xs : List ℕ) → IsStrictlyIncreasing xs → AreApart xs
apart_rising [] h n = omega arith
apart_rising (x ∷ xs) h n = apart_at n x xs h (eqb x n) refl (apart_rising xs (rising_tail x xs h) n)
  where
    apart_at : (n x : ℕ) (xs : List ℕ) → IsStrictlyIncreasing (x ∷ xs) → (b : Bool) → eqb x n ≡ b → count n xs ≤ 1 → count n (x ∷ xs) ≤ 1
    apart_at n x xs h true is rest = let same : x ≡ n = grind (arith, nat_tests) in let a = count-cons n x xs in let b = count_above n x xs
        (omega arith) h in let c : one_at n x ≤ 1 = subst (λ b. cond b 1 0 ≤ 1) (sym is) (omega arith) in omega arith
    apart_at n x xs h false is rest = let a = count-cons n x xs in let c : one_at n x ≡ 0 = ap (λ b. cond b 1 0) is in omega arith

-- ---- rising lists of the same numbers are the same

-- a number below all of an ascending list is not in it
none_below : (n y : ℕ) (ys : List ℕ) → n < y → IsStrictlyIncreasing (y ∷ ys) → count n (y ∷ ys) ≡ 0
none_below n y ys low h =
    let here : one_at n y ≡ 0 = ap (λ b. cond b 1 0) (ne_eqb y n (λ same. omega arith)) in
    let rest = count_above n y ys (omega arith) h in let a = count-cons n y ys in omega arith

pub same_rising : (xs ys : List ℕ) → IsStrictlyIncreasing xs → IsStrictlyIncreasing ys → ((n : ℕ) → count n xs ≡ count n ys) → xs ≡ ys
same_rising [] [] h k alike = refl
same_rising [] (y ∷ ys) h k alike = let a = alike y in let b = count-cons y y ys in let c = one_at-same y in absurd (omega arith)
same_rising (x ∷ xs) [] h k alike = let a = alike x in let b = count-cons x x xs in let c = one_at-same x in absurd (omega arith)
same_rising (x ∷ xs) (y ∷ ys) h k alike =
    let here = count-cons x x xs in let one = one_at-same x in let there = count-cons y y ys in let once = one_at-same y in
    let not_below : x < y → ⊥ = λ low. let none = none_below x y ys low k in let a = alike x in omega arith in
    let not_above : y < x → ⊥ = λ low. let none = none_below y x xs low h in let a = alike y in omega arith in
    let same : x ≡ y = omega arith in
    let rest : (n : ℕ) → count n xs ≡ count n ys = λ n.
    let a = alike n in let b = count-cons n x xs in let c = count-cons n y ys in let d = ap (one_at n) same in omega arith in
    ap₂ (λ (z : ℕ) (zs : List ℕ). z ∷ zs) same (same_rising xs ys (rising_tail x xs h) (rising_tail y ys k) rest)

pub same_moved : (xs ys : List ℕ) → IsPermutation xs ys → IsStrictlyIncreasing xs → IsStrictlyIncreasing ys → ys ≡ xs
same_moved xs ys moved h k = sym (same_rising xs ys h k (λ n. sym (sum_by-IsPermutation (one_at n) xs ys moved)))
