-- Items in an order.
use Rattle.std.specs.Prelude.{◌≡◌, ℕ, ◌<◌, Bool, List, length, slice_index_or}
use Rattle.std.specs.List.{filter}
use Rattle.std.specs.List.Sorted.{IsPermutation, IsSortedByKey, ties}
use Rattle.std.specs.Ordering.{is_lt}
use Rattle.std.specs.declared.cmp.Ordering.{Ordering}

-- whether two items have the same place in the order: neither key is below the other
abbrev pub tie : {X K : Type 0} → (X → K) → (K → K → Ordering) → X → X → Bool
tie key cmp x y = ties (λ a b. is_lt (cmp (key a) (key b))) x y

-- The items in the order of their keys; items that tie keep their order.
pub record InOrder {X K : Type 0} (key : X → K) (cmp : K → K → Ordering) (items ordered : List X) : Type 0 where
  pub same : IsPermutation items ordered
  pub sorted : IsSortedByKey key cmp ordered
  pub stable : (k : ℕ) (d : X) → k < length items
      → filter (tie key cmp (slice_index_or items k d)) ordered ≡ filter (tie key cmp (slice_index_or items k d)) items
