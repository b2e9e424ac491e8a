-- The elements of a list after a write or a push.
use Rattle.std.proofs.Common.{◌≡◌, ℕ, zero, suc, ◌<◌, List, [], ◌∷◌, ◌++◌, length, Some, refl, ap, arith}
use Rattle.std.proofs.Math.ListN.{set}
use Rattle.std.specs.List.{slice_get}

module _ {X : Type 0} where
  pub slice_get-set_same : (xs : List X) (i : ℕ) (x : X) → i < length xs → slice_get (set xs i x) i ≡ Some x
  slice_get-set_same [] i x h = absurd (omega arith)
  slice_get-set_same (y ∷ ys) zero x h = refl
  slice_get-set_same (y ∷ ys) (suc i) x h = slice_get-set_same ys i x (omega arith)

  pub slice_get-set_other : (xs : List X) (i j : ℕ) (x : X) → (j ≡ i → ⊥) → slice_get (set xs i x) j ≡ slice_get xs j
  slice_get-set_other [] i j x apart = refl
  slice_get-set_other (y ∷ ys) zero zero x apart = absurd (apart refl)
  slice_get-set_other (y ∷ ys) zero (suc j) x apart = refl
  slice_get-set_other (y ∷ ys) (suc i) zero x apart = refl
  slice_get-set_other (y ∷ ys) (suc i) (suc j) x apart = slice_get-set_other ys i j x (λ e. apart (ap suc e))

  pub slice_get-push_last : (xs : List X) (x : X) → slice_get (xs ++ x ∷ []) (length xs) ≡ Some x
  slice_get-push_last [] x = refl
  slice_get-push_last (y ∷ ys) x = slice_get-push_last ys x

  pub slice_get-push_other : (xs : List X) (x : X) (j : ℕ) → (j ≡ length xs → ⊥) → slice_get (xs ++ x ∷ []) j ≡ slice_get xs j
  slice_get-push_other [] x zero apart = absurd (apart refl)
  slice_get-push_other [] x (suc j) apart = refl
  slice_get-push_other (y ∷ ys) x zero apart = refl
  slice_get-push_other (y ∷ ys) x (suc j) apart = slice_get-push_other ys x j (λ e. apart (ap suc e))
