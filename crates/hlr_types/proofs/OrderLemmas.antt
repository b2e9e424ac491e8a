-- The order of octet strings is total, and distinguishes them.
use Rattle.std.proofs.Common.{◌≡◌, ℕ, List, [], ◌∷◌, true, false, ◌&&◌, ◌⊎◌, inl, inr, refl, sym, ap, ◌∙◌, eqb}
use lib.Pointwise.{pointwise}
use Rattle.std.specs.declared.cmp.Ordering.{Ordering}
use Rattle.std.specs.declared.cmp.Ordering.TheVariants.{Less, Equal, Greater}
use Rattle.std.specs.Ordering.{eq_by_cmp, nat_cmp, is_eq, ordering_then}
use Rattle.std.specs.Cmp.{IsTotalOrder, Equal-is, tied_itself, unsigned_tied}
use Rattle.std.specs.Cmp.Lexicographic.{nat_list_cmp_total}
use Rattle.std.specs.FinMap.{IsAntisymmetric, slice_cmp-IsAntisymmetric, nat_cmp-IsAntisymmetric}
use Rattle.hlr_types.specs.Orders.{octets_cmp}

pub octets_total : IsTotalOrder octets_cmp
octets_total = nat_list_cmp_total

pub octets_exact : IsAntisymmetric octets_cmp
octets_exact = slice_cmp-IsAntisymmetric nat_cmp-IsAntisymmetric

pub same_octets : (p q : List ℕ) → eq_by_cmp octets_cmp p q ≡ true → p ≡ q
same_octets p q e = octets_exact p q ((Equal-is (octets_cmp p q)).0 e)

pub eq_octets : (p q : List ℕ) → p ≡ q → eq_by_cmp octets_cmp p q ≡ true
eq_octets p q e = ap (eq_by_cmp octets_cmp p) (sym e) ∙ ap is_eq (tied_itself octets_total p)

pub ne_octets : (p q : List ℕ) → (p ≡ q → ⊥) → eq_by_cmp octets_cmp p q ≡ false
ne_octets p q differ =
    elim (eq_by_cmp octets_cmp p q) as (λ b. eq_by_cmp octets_cmp p q ≡ b → b ≡ false) [
      | true ↦ λ e. absurd (differ (same_octets p q e))
      | false ↦ λ e. refl
    ] refl

pub cases_octets : (p q : List ℕ) → (p ≡ q) ⊎ (p ≡ q → ⊥)
cases_octets p q =
    elim (eq_by_cmp octets_cmp p q) as (λ b. eq_by_cmp octets_cmp p q ≡ b → (p ≡ q) ⊎ (p ≡ q → ⊥)) [
      | true ↦ λ e. inl (same_octets p q e)
      | false ↦ λ e. inr (λ s. cc (eq_octets p q s))
    ] refl

then-is_eq : (r s : Ordering) → (is_eq r && is_eq s) ≡ is_eq (ordering_then r s)
then-is_eq Less s = refl
then-is_eq Equal s = refl
then-is_eq Greater s = refl

-- `==` on octets
pub pointwise-octets : (p q : List ℕ) → pointwise eqb p q ≡ eq_by_cmp octets_cmp p q
pointwise-octets [] [] = refl
pointwise-octets [] (y ∷ ys) = refl
pointwise-octets (x ∷ xs) [] = refl
pointwise-octets (x ∷ xs) (y ∷ ys) =
    ap (λ b. b && pointwise eqb xs ys) (sym (unsigned_tied x y)) ∙ ap (λ b. is_eq (nat_cmp x y) && b) (pointwise-octets xs ys)
    ∙ then-is_eq (nat_cmp x y) (octets_cmp xs ys)
