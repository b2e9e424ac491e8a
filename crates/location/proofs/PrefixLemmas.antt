-- What begins with a prefix.
use Rattle.std.proofs.Common.{◌≡◌, List, [], ◌∷◌, ℕ, refl, ap, ◌&&◌, nat_eq}
use Rattle.std.specs.List.{starts_with}
use Rattle.machine.specs.Keys.{is_prefix}

pub starts_prefix : (digits prefix : List ℕ) → starts_with nat_eq digits prefix ≡ is_prefix prefix digits
starts_prefix digits [] = refl
starts_prefix [] (x ∷ xs) = refl
starts_prefix (y ∷ ys) (x ∷ xs) = ap (λ b. nat_eq x y && b) (starts_prefix ys xs)
