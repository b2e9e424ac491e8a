-- Lists of numbers that have each number equally often.
use Rattle.std.proofs.Common.{◌≡◌, ℕ, ◌+◌, ◌<◌, eqb, eq-eqb, cond, Bool, true, false, List, [], ◌∷◌, ◌++◌, sym, refl, ap, subst, arith}
use Rattle.std.specs.Prelude.{count_by}
use Rattle.std.specs.List.Sorted.{IsPermutation}
use Rattle.std.proofs.lemmas.List.Sums.{sum_by-cons, sum_by-append}
use Rattle.std.proofs.lemmas.List.Sorted.{IsPermutation-refl, IsPermutation-cons, IsPermutation-sym, IsPermutation-trans, IsPermutation-middle}
use Rattle.std.proofs.lemmas.Bool.Decides.{nat_tests}

-- 1 at n, otherwise 0
abbrev pub one_at : ℕ → ℕ → ℕ
one_at n m = cond (eqb m n) 1 0

abbrev pub count : ℕ → List ℕ → ℕ
count n ms = count_by (λ m. eqb m n) ms

pub count-cons : (n m : ℕ) (ms : List ℕ) → count n (m ∷ ms) ≡ one_at n m + count n ms
count-cons n m ms = sum_by-cons (one_at n) m ms

pub one_at-same : (n : ℕ) → one_at n n ≡ 1
one_at-same n = ap (λ b. cond b 1 0) (eq-eqb n n refl)

-- a number that is counted occurs somewhere
abbrev Splits : ℕ → List ℕ → Type 0
Splits n ms = (front : List ℕ) × (back : List ℕ) × (ms ≡ front ++ n ∷ back)

pick_at : (n m : ℕ) (ms : List ℕ) (b : Bool) → eqb m n ≡ b → (0 < count n ms → Splits n ms) → 0 < count n (m ∷ ms) → Splits n (m ∷ ms)
pick_at n m ms true is rest some = let same : m ≡ n = grind (arith, nat_tests) in ([], ms, ap (λ x. x ∷ ms) same)
pick_at n m ms false is rest some =
    let a = count-cons n m ms in let zero_here : one_at n m ≡ 0 = ap (λ c. cond c 1 0) is in
    let h = rest (omega arith) in (m ∷ h.0, h.1, ap (λ l. m ∷ l) h.2)

pick : (n : ℕ) (ms : List ℕ) → 0 < count n ms → Splits n ms
pick n [] some = absurd (omega arith)
pick n (m ∷ ms) some = pick_at n m ms (eqb m n) refl (λ h. pick n ms h) some

pub permutation_of_counts : (xs ys : List ℕ) → ((n : ℕ) → count n xs ≡ count n ys) → IsPermutation xs ys
permutation_of_counts [] [] alike = IsPermutation-refl []
permutation_of_counts [] (y ∷ ys) alike = let a = alike y in let b = count-cons y y ys in let c = one_at-same y in absurd (omega arith)
permutation_of_counts (x ∷ xs) ys alike =
    let first : 0 < count x ys = let a = alike x in let b = count-cons x x xs in let c = one_at-same x in omega arith in
    let at = pick x ys first in let front = at.0 in let back = at.1 in
    let rest : (n : ℕ) → count n xs ≡ count n (front ++ back) = λ n.
    let a = alike n in let b = count-cons n x xs in let c = ap (count n) at.2 in
    let d = sum_by-append (one_at n) front (x ∷ back) in let e = count-cons n x back in let f = sum_by-append (one_at n) front back in omega arith in
    let moved = IsPermutation-cons x xs (front ++ back) (permutation_of_counts xs (front ++ back) rest) in
    let back_in = IsPermutation-sym (front ++ x ∷ back) (x ∷ (front ++ back)) (IsPermutation-middle front x back) in
    subst (IsPermutation (x ∷ xs)) (sym at.2) (IsPermutation-trans (x ∷ xs) (x ∷ (front ++ back)) (front ++ x ∷ back) moved back_in)
