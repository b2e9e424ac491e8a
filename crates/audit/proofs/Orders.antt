-- Items in an order, seen through a function.
use denote.Ref.{Bor}
use denote.Param.Members.{Mut}
use Rattle.std.proofs.Common.{◌≡◌, ◌+◌, ◌<◌, ℕ, zero, suc, Bool, true, false, cond, List, [], ◌∷◌, length, map, refl, sym, ap, ◌∙◌, subst, arith}
use Rattle.std.specs.Prelude.{slice_index_or}
use Rattle.std.specs.List.{filter}
use Rattle.std.specs.List.Sorted.{IsPermutation, IsSortedByKey, IsStableByKey}
use Rattle.std.specs.Ordering.{is_lt}
use Rattle.std.specs.declared.cmp.Ordering.{Ordering}
use Rattle.std.proofs.lemmas.List.{length-map}
use Rattle.std.proofs.lemmas.List.Sorted.{IsPermutation-map}
use Rattle.std.specs.Fn.{Called, ComputesKey}
use Rattle.std.proofs.lemmas.Fn.{always_returns_same}
use Rattle.audit.specs.Orders.{InOrder, tie}

index-map : {X Y : Type 0} (f : X → Y) (xs : List X) (k : ℕ) (d : X) → slice_index_or (map f xs) k (f d) ≡ f (slice_index_or xs k d)
index-map f [] k d = refl
index-map f (x ∷ xs) zero d = refl
index-map f (x ∷ xs) (suc k) d = index-map f xs k d

index_inside : {X : Type 0} (xs : List X) (k : ℕ) (d e : X) → k < length xs → slice_index_or xs k d ≡ slice_index_or xs k e
index_inside [] k d e lt = absurd (omega (arith, lt))
index_inside (x ∷ xs) zero d e lt = refl
index_inside (x ∷ xs) (suc k) d e lt = index_inside xs k d e (omega (arith, lt))

filter-map : {X Y : Type 0} (f : X → Y) (p : Y → Bool) (xs : List X) → filter p (map f xs) ≡ map f (filter (λ x. p (f x)) xs)
filter-map f p [] = refl
filter-map f p (x ∷ xs) = elim (p (f x)) as (λ b. cond b (f x ∷ filter p (map f xs)) (filter p (map f xs)) ≡ map f
    (cond b (x ∷ filter (λ z. p (f z)) xs) (filter (λ z. p (f z)) xs))) [
      | true ↦ ap (λ (ys : List _). f x ∷ ys) (filter-map f p xs)
      | false ↦ filter-map f p xs
    ]

an_item : {X : Type 0} (xs : List X) (k : ℕ) → k < length xs → X
an_item [] k lt = absurd (omega (arith, lt))
an_item (x ∷ xs) k lt = x

module _ {X Y K : Type 0} (f : X → Y) (key : Y → K) (cmp : K → K → Ordering) where
  sorted-map : (xs : List X) → IsSortedByKey (λ x. key (f x)) cmp xs → IsSortedByKey key cmp (map f xs)
  sorted-map xs is = λ k d low high.
      let inside : k + 1 < length xs = omega (arith, high, length-map xs f) in
      let e : X = an_item xs (k + 1) inside in
      let here : slice_index_or (map f xs) k d ≡ f (slice_index_or xs k e) = index_inside (map f xs) k d (f e) (omega (arith, high))
      ∙ index-map f xs k e in
      let next : slice_index_or (map f xs) (k + 1) d ≡ f (slice_index_or xs (k + 1) e) = index_inside (map f xs) (k + 1) d (f e) high
      ∙ index-map f xs (k + 1) e in
      subst (λ (y : Y). is_lt (cmp (key (slice_index_or (map f xs) (k + 1) d)) (key y)) ≡ false) (sym here)
      (subst (λ (y : Y). is_lt (cmp (key y) (key (f (slice_index_or xs k e)))) ≡ false) (sym next) (is k e low inside))

  stable-map : (xs ys : List X) → IsStableByKey (λ x. key (f x)) cmp xs ys → (k : ℕ) (d : Y) → k < length (map f xs)
      → filter (tie key cmp (slice_index_or (map f xs) k d)) (map f ys) ≡ filter (tie key cmp (slice_index_or (map f xs) k d)) (map f xs)
  stable-map xs ys is = λ k d lt.
      let inside : k < length xs = omega (arith, lt, length-map xs f) in
      let e : X = an_item xs k inside in
      let x : X = slice_index_or xs k e in
      let here : slice_index_or (map f xs) k d ≡ f x = index_inside (map f xs) k d (f e) lt ∙ index-map f xs k e in
      let at_x : filter (tie key cmp (f x)) (map f ys) ≡ filter (tie key cmp (f x)) (map f xs) =
      filter-map f (tie key cmp (f x)) ys ∙ ap (map f) (is x) ∙ sym (filter-map f (tie key cmp (f x)) xs) in
      subst (λ (y : Y). filter (tie key cmp y) (map f ys) ≡ filter (tie key cmp y) (map f xs)) (sym here) at_x

  -- the result of a stable sort, seen so
  pub in_order : (xs ys : List X) → IsPermutation xs ys → IsSortedByKey (λ x. key (f x)) cmp ys → IsStableByKey (λ x. key (f x)) cmp xs ys
      → InOrder key cmp (map f xs) (map f ys)
  in_order xs ys same sorted stable = record {
    same = IsPermutation-map f xs ys same;
    sorted = sorted-map ys sorted;
    stable = stable-map xs ys stable;
  }

-- the result of a sort by a key, if each call returns the key of what is seen
pub sorted_so : {X Y K : Type 0} (see : X → Y) (key : Y → K) (cmp : K → K → Ordering) {F : Type 0} {g : Mut F (Bor X × Unit {0}) K} {f : F}
    (xs ys : List X) → IsPermutation xs ys
    → ((k : X → K) → ComputesKey g k f → IsSortedByKey k cmp ys) → ((k : X → K) → ComputesKey g k f → IsStableByKey k cmp xs ys)
    → ((a : Bor X × Unit {0}) (r : K) (f' : F) → Called g f a r f' → (r ≡ key (see a.0.now)) × (f' ≡ f))
    → InOrder key cmp (map see xs) (map see ys)
sorted_so {X = X} see key cmp {g = g} {f = f} xs ys same sorted stable calls =
    let k : X → _ = λ x. key (see x) in
    let computes : ComputesKey g k f = always_returns_same g (λ a r. r ≡ key (see a.0.now)) f calls in
    in_order see key cmp xs ys same (sorted k computes) (stable k computes)
