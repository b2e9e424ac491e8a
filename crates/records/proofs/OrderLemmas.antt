-- What a search by halves finds among things in the order of their keys.
use Rattle.std.proofs.Common.{◌≡◌, ℕ, zero, suc, ◌<◌, ◌≤◌, ◌+◌, ◌-◌, ◌⊎◌, Bool, true, false, List, [], ◌∷◌, map as each, length, get_or, drop, refl, sym, ap, subst, ◌∙◌, arith, inl, inr}
use Rattle.std.specs.Prelude.{Option, Some, None, Result, Ok, Err, IfSome, MatchResult, All}
use Rattle.std.specs.Bool.{OnTrue}
use Rattle.std.specs.List.{Contains, IsAllAdjacentAnswer, slice_range}
use Rattle.std.specs.List.Sorted.{IsStrictlySortedBy, IsNonDecreasingBy, IsSortedBy, IsBinarySearchResult, IsSearchInRange}
use Rattle.std.specs.Ordering.{ordering_index, eq_by_cmp, is_eq, is_lt, ordering_reverse}
use Rattle.std.specs.declared.cmp.Ordering.{Ordering}
use Rattle.std.specs.declared.cmp.Ordering.TheVariants.{Less, Equal, Greater}
use Rattle.std.specs.Cmp.{eq_by_cmp_equiv}
use Rattle.std.specs.Map.{lookup, keys_of}
use Rattle.std.specs.BTreeMap.{is_at}
use Rattle.std.proofs.lemmas.Bool.{false≢true}
use Rattle.std.proofs.lemmas.List.{get_or-map, get_or-take, get_or-drop, length-map}
use Rattle.std.proofs.lemmas.List.Sorted.{searchable_from_sorted}
use Rattle.std.proofs.lemmas.List.Elements.{recursion_from_All, Contains-get_or}
use Rattle.std.proofs.lemmas.Map.{lookup-none}
use Rattle.std.proofs.lemmas.Map.Entries.{lookup_from_place}
use Rattle.std.proofs.lemmas.Map.Views.{lookup-from_Contains}
use Rattle.std.proofs.lemmas.Map.Keys.{Less-from_sorted, IsDistinct-from_sorted, sorted_from_all_adjacent}
use Rattle.std.proofs.lemmas.Option.{slice_get-get_or}
use Rattle.records.specs.Maps.{digits_cmp}
use Rattle.records.specs.Ordered.{AreOrderedBy}
use Rattle.records.proofs.MapLemmas.{digits_total, digits_exact}

below_or_not : (i at : ℕ) → (i < at) ⊎ (at ≤ i)
below_or_not zero zero = inr (omega arith)
below_or_not zero (suc at) = inl (omega arith)
below_or_not (suc i) zero = inr (omega arith)
below_or_not (suc i) (suc at) = elim (below_or_not i at) [ inl below ↦ inl (omega arith) | inr above ↦ inr (omega arith) ]

-- what is below is not above
not_above : (p q : List ℕ) → digits_cmp p q ≡ Less → is_lt (digits_cmp q p) ≡ false
not_above p q less = ap is_lt (digits_total.antisymm q p ∙ ap ordering_reverse less)

apart : (p q : List ℕ) (o : Ordering) → digits_cmp p q ≡ o → (o ≡ Less) ⊎ (o ≡ Greater) → eq_by_cmp digits_cmp q p ≡ false
apart p q o is (inl less) = ap is_eq (digits_total.antisymm q p ∙ ap ordering_reverse (is ∙ less))
apart p q o is (inr greater) = ap is_eq (digits_total.antisymm q p ∙ ap ordering_reverse (is ∙ greater))

-- The key is at the place that a search ends at, whatever their order.
pub at_its_key : {Y : Type 0} (key : Y → List ℕ) (ys : List Y) (k : List ℕ) (at : ℕ) → IsBinarySearchResult (λ y. digits_cmp (key y) k) ys (Ok at)
    → (d : Y) → key (get_or ys at d) ≡ k
at_its_key key ys k at found d = digits_exact (key (get_or ys at d)) k (found d)

module _ {Y : Type 0} (key : Y → List ℕ) (ys : List Y) (ordered : AreOrderedBy key ys) (k : List ℕ) where
  adjacent : IsSortedBy (λ a b. is_lt (digits_cmp (key a) (key b))) ys
  adjacent i d low high =
      let many : length (each key ys) ≡ length ys = length-map ys key in
      let less = Less-from_sorted digits_cmp (each key ys) i (i + 1) (key d) ordered (omega arith) (omega arith) in
      let here = get_or-map key ys i d (key d) (omega arith) in
      let next = get_or-map key ys (i + 1) d (key d) (omega arith) in
      not_above (key (get_or ys i d)) (key (get_or ys (i + 1) d)) (subst (λ (p : List ℕ). digits_cmp p (key (get_or ys (i + 1) d)) ≡ Less) here
      (subst (λ (q : List ℕ). digits_cmp (get_or (each key ys) i (key d)) q ≡ Less) next less))

  rises : IsNonDecreasingBy (λ y. ordering_index (digits_cmp (key y) k)) ys
  rises = searchable_from_sorted digits_total key ys k adjacent

  -- A search ends where the key is, or no key is the one that is sought.
  pub searched : (r : Result ℕ ℕ) → IsBinarySearchResult (λ y. digits_cmp (key y) k) ys r → IsSearchInRange r (length ys)
      → MatchResult r (λ at. (d : Y) → key (get_or ys at d) ≡ k) (λ _. All (λ y. eq_by_cmp digits_cmp k (key y) ≡ false) ys)
  searched (Ok at) found range = at_its_key key ys k at found
  searched (Err at) parted range = λ i d lt.
      let parts = parted rises in
      elim (below_or_not i at) [
        | inl below ↦ apart (key (get_or ys i d)) k Less (parts.0 i d (omega arith) below) (inl refl)
        | inr above ↦ apart (key (get_or ys i d)) k Greater (parts.1 i d above lt) (inr refl)
      ]

-- the value at the place of the key
pub hit : {X : Type 0} (es : List (List ℕ × X)) (k : List ℕ) (at : ℕ) (d : List ℕ × X) → IsStrictlySortedBy digits_cmp (keys_of es) → at < length es
    → (get_or es at d).0 ≡ k
    → lookup (is_at (digits_cmp k)) es ≡ Some (get_or es at d).1
hit es k at d ordered lt is =
    lookup_from_place (eq_by_cmp_equiv digits_total) es at k (get_or es at d).1 (IsDistinct-from_sorted digits_cmp (keys_of es) ordered)
    (slice_get-get_or es at d lt ∙ ap (λ (key : List ℕ). Some (key, (get_or es at d).1)) is)

-- no value where no key is the one that is sought
pub missed : {X : Type 0} (es : List (List ℕ × X)) (k : List ℕ) → All (λ e. eq_by_cmp digits_cmp k e.0 ≡ false) es → lookup (is_at (digits_cmp k)) es ≡ None
missed es k none = lookup-none (is_at (digits_cmp k)) es (recursion_from_All (λ e. eq_by_cmp digits_cmp k e.0 ≡ false) es none)

-- the entry that a search ends at, whatever their order
pub found_at_its_key : {X : Type 0} (es : List (List ℕ × X)) (k : List ℕ) (at : ℕ) (d : List ℕ × X) → at < length es
    → IsBinarySearchResult (λ e. digits_cmp e.0 k) es (Ok at) → Contains es (k, (get_or es at d).1)
found_at_its_key es k at d lt found =
    subst (λ e. Contains es e) (ap (λ key. (key, (get_or es at d).1)) (at_its_key (λ e. e.0) es k at found d)) (Contains-get_or es at d lt)

-- What is in a part of a list is in the list.
pub in_the_whole : {X : Type 0} (xs part : List X) (start end : ℕ) (x : X) → end ≤ length xs → part ≡ slice_range xs start end
    → length part + start ≡ end → Contains part x → Contains xs x
in_the_whole {X = X} xs part start end x inside is many has = (
  start + has.0,
  omega arith,
  sym (ap (λ (l : List X). get_or l has.0 x) is ∙ get_or-take (end - start) (drop start xs) has.0 x (omega arith) ∙ get_or-drop start xs has.0 x) ∙ has.2,
)

-- What is found in a part is what there is in the whole.
pub found_in_a_part : {X : Type 0} (es part : List (List ℕ × X)) (k : List ℕ) (r : Option X) → IsStrictlySortedBy digits_cmp (keys_of es)
    → ((e : List ℕ × X) → Contains part e → Contains es e) → IfSome r (λ v. Contains part (k, v))
    → IfSome r (λ v. lookup (is_at (digits_cmp k)) es ≡ Some v)
found_in_a_part es part k None ordered within found = tt
found_in_a_part es part k (Some v) ordered within found =
    lookup-from_Contains (eq_by_cmp_equiv digits_total) k v es (IsDistinct-from_sorted digits_cmp (keys_of es) ordered) (within (k, v) found)

-- ---- what comes before the next one

is_below : (o : Ordering) → true ≡ is_lt o → o ≡ Less
is_below Less is = refl
is_below Equal is = absurd (false≢true (sym is))
is_below Greater is = absurd (false≢true (sym is))

-- Things that were asked for in pairs are in order, if each came before the next.
pub ascending : {Y : Type 0} (key : Y → List ℕ) (ys : List Y) (r : Bool)
    → IsAllAdjacentAnswer (λ x y b. b ≡ is_lt (digits_cmp (key x) (key y))) ys r → OnTrue r (AreOrderedBy key ys)
unfolding IsStrictlySortedBy
ascending key ys false asked = tt
ascending key [] true asked = tt
ascending key (y ∷ ys) true asked = sorted_from_all_adjacent digits_total (each key (y ∷ ys)) (key y) (λ k lt.
    let many : length (each key (y ∷ ys)) ≡ length (y ∷ ys) = length-map (y ∷ ys) key in
    let here = get_or-map key (y ∷ ys) k y (key y) (omega arith) in
    let next = get_or-map key (y ∷ ys) (k + 1) y (key y) (omega arith) in
    let less = is_below (digits_cmp (key (get_or (y ∷ ys) k y)) (key (get_or (y ∷ ys) (k + 1) y))) (asked k y (omega arith)) in
    ap (λ (p : List ℕ). digits_cmp p (get_or (each key (y ∷ ys)) (k + 1) (key y))) here
    ∙ ap (λ (q : List ℕ). digits_cmp (key (get_or (y ∷ ys) k y)) q) next ∙ less)
