-- The elements of a list, also after one of them has changed.
use Rattle.std.proofs.Common.{◌≡◌, ℕ, zero, suc, ◌<◌, List, [], ◌∷◌, ◌++◌, length, set, refl, ap, arith, inl, inr}
use Rattle.std.specs.Prelude.{◌⊎◌, Some, slice_get}

pub there : {X : Type 0} (xs : List X) (n : ℕ) → n < length xs → (x : X) × (slice_get xs n ≡ Some x)
there [] n lt = absurd (omega (arith, lt))
there (x ∷ xs) zero lt = (x, refl)
there (x ∷ xs) (suc n) lt = there xs n (omega (arith, lt))

-- the places below a longer list's last
pub below_or_last : {X : Type 0} (xs : List X) (x y : X) (n : ℕ) → slice_get (xs ++ x ∷ []) n ≡ Some y
    → (slice_get xs n ≡ Some y) ⊎ ((n ≡ length xs) × (x ≡ y))
below_or_last [] x y zero e = inr (refl, cc)
below_or_last [] x y (suc n) e = absurd cc
below_or_last (z ∷ zs) x y zero e = inl e
below_or_last (z ∷ zs) x y (suc n) e = elim (below_or_last zs x y n e) [
  | inl h ↦ inl h
  | inr h ↦ inr (ap suc h.0, h.1)
]

pub set_there : {X : Type 0} (xs : List X) (i : ℕ) (x : X) → i < length xs → slice_get (set xs i x) i ≡ Some x
set_there [] i x lt = absurd (omega (arith, lt))
set_there (y ∷ ys) zero x lt = refl
set_there (y ∷ ys) (suc i) x lt = set_there ys i x (omega (arith, lt))

pub set_elsewhere : {X : Type 0} (xs : List X) (i n : ℕ) (x : X) → (i ≡ n → ⊥) → slice_get (set xs i x) n ≡ slice_get xs n
set_elsewhere [] i n x ne = refl
set_elsewhere (y ∷ ys) zero zero x ne = absurd (ne refl)
set_elsewhere (y ∷ ys) zero (suc n) x ne = refl
set_elsewhere (y ∷ ys) (suc i) zero x ne = refl
set_elsewhere (y ∷ ys) (suc i) (suc n) x ne = set_elsewhere ys i n x (λ e. ne (ap suc e))

pub set_or_not : {X : Type 0} (xs : List X) (i n : ℕ) (x y : X) → slice_get (set xs i x) n ≡ Some y
    → ((n ≡ i) × (x ≡ y)) ⊎ (slice_get xs n ≡ Some y)
set_or_not [] i n x y e = inr e
set_or_not (z ∷ zs) zero zero x y e = inl (refl, cc)
set_or_not (z ∷ zs) zero (suc n) x y e = inr e
set_or_not (z ∷ zs) (suc i) zero x y e = inr e
set_or_not (z ∷ zs) (suc i) (suc n) x y e = elim (set_or_not zs i n x y e) [
  | inl h ↦ inl (ap suc h.0, h.1)
  | inr h ↦ inr h
]
