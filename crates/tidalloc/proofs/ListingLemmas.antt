-- Ids in ascending order.
use Rattle.std.proofs.Common.{◌≡◌, ℕ, suc, ◌+◌, ◌<◌, ◌≤◌, Bool, true, false, cond, not, ◌&&◌, ◌||◌, List, [], ◌∷◌, ◌++◌, length, Option, Some, None, refl, sym, ap, ◌∙◌, subst, arith, T, get_or, map, take, drop}
use Rattle.std.proofs.lemmas.Bool.{true≢false}
use Rattle.std.proofs.lemmas.List.{drop_more, drop_all, take_all, take_more, take-append-drop}
use Rattle.std.proofs.lemmas.List.Sorted.{list_any-IsPermutation, sorted_far, ranks_by}
use Rattle.std.proofs.lemmas.Map.Keys.{IsDistinct-IsPermutation}
use Rattle.std.specs.Option.{is_some}
use Rattle.std.specs.List.{list_any, slice_index_or, AllByRecursion, IsDistinct}
use Rattle.std.specs.List.Sorted.{IsPermutation, IsSorted}
use Rattle.std.specs.declared.cmp.Ordering.{Ordering}
use Rattle.std.specs.declared.cmp.Ordering.TheVariants.{Less, Equal, Greater}
use Rattle.std.specs.Ordering.{eq_by_cmp, is_lt, is_eq, ordering_reverse}
use Rattle.std.specs.Cmp.{eq_by_cmp_equiv}
use Rattle.std.specs.FinMap as finite
use Rattle.std.specs.FinMap.Entries.{below_all}
use Rattle.std.specs.FinSet as set
use Rattle.hlr_types.specs.Orders.{octets_cmp}
use Rattle.hlr_types.proofs.OrderLemmas.{octets_total, octets_exact, same_octets, eq_octets}
use Rattle.tidalloc.proofs.IdLemmas.{slot_of-id_at}
use Rattle.tidalloc.proofs.SlotLemmas.{none_below}
use Rattle.tidalloc.specs.declared.slot.Slot.{Slot}
use Rattle.tidalloc.specs.LiveIds.{LiveIds, id_at, is_live}
use Rattle.tidalloc.specs.Resumed.{as_key, ascending, untaken, untaken_all}
use Rattle.tidalloc.specs.Slots.{ids_from, live_of}

abbrev pub is_id : List ℕ → List ℕ → Bool
is_id q = eq_by_cmp octets_cmp q

abbrev pub paired : List (List ℕ) → List (List ℕ × Unit {0})
paired ids = map as_key ids

abbrev marked : Bool → Option (Unit {0})
marked b = cond b (Some tt) None

find-paired : (q : List ℕ) (xs : List (List ℕ)) → finite.find octets_cmp q (paired xs) ≡ marked (list_any (is_id q) xs)
find-paired q [] = refl
find-paired q (x ∷ xs) =
    elim (is_id q x) as (λ b. cond b (Some tt) (finite.find octets_cmp q (paired xs)) ≡ marked (b || list_any (is_id q) xs)) [
      | true ↦ refl
      | false ↦ find-paired q xs
    ]

keys-paired : (xs : List (List ℕ)) → map (λ (e : List ℕ × Unit {0}). e.0) (paired xs) ≡ xs
keys-paired [] = refl
keys-paired (x ∷ xs) = ap (λ ys. x ∷ ys) (keys-paired xs)

is_some-found : (b : Bool) → is_some (marked b) ≡ b
is_some-found true = refl
is_some-found false = refl

-- a list that rises is that of the set of its ids
pub rising-same : (xs : List (List ℕ)) (ids : set.FinSet octets_cmp) → T (finite.is_sorted octets_cmp (paired xs))
    → ((q : List ℕ) → list_any (is_id q) xs ≡ set.contains ids q) → xs ≡ ascending ids
rising-same xs ids rises each =
    let same : finite.from_sorted {R = octets_cmp} (paired xs) ≡ finite.from_entries (paired (set.items ids)) =
    finite.same_map octets_total octets_exact _ _ (λ q.
    finite.get-from_sorted octets_cmp (paired xs) q rises
    ∙ find-paired q xs
    ∙ ap marked (each q ∙ set.contains-items ids q)
    ∙ sym (find-paired q (set.items ids))
    ∙ sym (finite.get-from_entries octets_total (paired (set.items ids)) q)) in
    sym (keys-paired xs) ∙ ap (map (λ (e : List ℕ × Unit {0}). e.0)) (sym (finite.entries-from_sorted octets_cmp (paired xs) rises))
    ∙ ap finite.keys same

-- the same ids are in both
pub any-ascending : (ids : set.FinSet octets_cmp) (q : List ℕ) → list_any (is_id q) (ascending ids) ≡ set.contains ids q
any-ascending ids q =
    sym (finite.contains_key-keys (finite.from_entries {R = octets_cmp} (paired (set.items ids))) q)
    ∙ ap is_some (finite.get-from_entries octets_total (paired (set.items ids)) q ∙ find-paired q (set.items ids))
    ∙ is_some-found (list_any (is_id q) (set.items ids))
    ∙ sym (set.contains-items ids q)

-- ---- no id stands twice

abbrev pub AreDistinct : List (List ℕ) → Type 0
AreDistinct [] = Unit {0}
AreDistinct (x ∷ xs) = (list_any (is_id x) xs ≡ false) × AreDistinct xs

not_below : {X : Type 0} (x : List ℕ) (es : List (List ℕ × X)) → T (below_all octets_cmp x es) → list_any (is_id x) (map (λ (e : List ℕ × X). e.0) es) ≡ false
not_below x [] h = refl
not_below {X} x (e ∷ es) h =
    elim (octets_cmp x e.0) as (λ r. T (is_lt r && below_all octets_cmp x es) → (is_eq r || list_any (is_id x) (map (λ (e : List ℕ × X). e.0) es)) ≡ false) [
      | Less ↦ λ h. not_below x es h
      | Equal ↦ λ h. absurd h
      | Greater ↦ λ h. absurd h
    ] h

first_of : (a b : Bool) → T (a && b) → T a × T b
first_of true b h = (tt, h)
first_of false b h = absurd h

distinct-keys : {X : Type 0} (es : List (List ℕ × X)) → T (finite.is_sorted octets_cmp es) → AreDistinct (map (λ (e : List ℕ × X). e.0) es)
distinct-keys [] h = tt
distinct-keys (e ∷ es) h = let both = first_of _ _ h in (not_below e.0 es both.0, distinct-keys es both.1)

pub distinct-ascending : (ids : set.FinSet octets_cmp) → AreDistinct (ascending ids)
distinct-ascending ids =
    distinct-keys (finite.entries (finite.from_entries {R = octets_cmp} (paired (set.items ids)))) (finite.entries_sorted (finite.from_entries (paired (set.items ids))))

-- of a list that is cut, the rest
pub distinct-rest : (front rest : List (List ℕ)) → AreDistinct (front ++ rest) → AreDistinct rest
distinct-rest [] rest d = d
distinct-rest (x ∷ front) rest d = distinct-rest front rest d.1

-- ---- the ids of slots, sorted

apart_all : (q : List ℕ) (xs : List (List ℕ)) → list_any (is_id q) xs ≡ false → AllByRecursion (λ y. is_id q y ≡ false) xs
apart_all q [] e = tt
apart_all q (x ∷ xs) e =
    elim (is_id q x) as (λ b. is_id q x ≡ b → (b || list_any (is_id q) xs) ≡ false → AllByRecursion (λ y. is_id q y ≡ false) (x ∷ xs)) [
      | true ↦ λ _ e. absurd (true≢false e)
      | false ↦ λ h e. (h, apart_all q xs e)
    ] refl e

distinct-ids_from : (shard n : ℕ) (slots : List Slot) → n + length slots ≤ 4096 → IsDistinct is_id (ids_from shard n slots)
unfolding IsDistinct
distinct-ids_from shard n [] few = tt
distinct-ids_from shard n (s ∷ slots) few =
    let rest = distinct-ids_from shard (n + 1) slots (omega arith) in
    let here = slot_of-id_at shard n s.generation (omega arith) in
    let apart = apart_all (id_at shard n s.generation) (ids_from shard (n + 1) slots)
    (none_below shard (id_at shard n s.generation) (n + 1) slots (omega arith) (omega (arith, here))) in
    elim s.is_live as (λ b. IsDistinct is_id (cond b (id_at shard n s.generation ∷ ids_from shard (n + 1) slots) (ids_from shard (n + 1) slots))) [
      | true ↦ (apart, rest)
      | false ↦ rest
    ]

less : (x y : List ℕ) → is_lt (octets_cmp y x) ≡ false → is_id x y ≡ false → is_lt (octets_cmp x y) ≡ true
less x y not_less other = look (octets_cmp y x) (octets_cmp x y) (octets_total.antisymm x y) not_less other
  where
    look : (r s : Ordering) → s ≡ ordering_reverse r → is_lt r ≡ false → is_eq s ≡ false → is_lt s ≡ true
    look Less s e h o = cc
    look Equal s e h o = let x : is_eq s ≡ true = ap is_eq e in cc
    look Greater s e h o = ap is_lt e

both_are : (a b : Bool) → a ≡ true → T b → T (a && b)
both_are a b e h = subst (λ c. T (c && b)) (sym e) h

and_also : (a b : Bool) → T a → T b → T (a && b)
and_also true b h g = g
and_also false b h g = absurd h

below : (x : List ℕ) (xs : List (List ℕ)) → ((j : ℕ) → j < length xs → is_lt (octets_cmp (get_or xs j []) x) ≡ false)
    → AllByRecursion (λ y. is_id x y ≡ false) xs → T (below_all octets_cmp x (paired xs))
below x [] far apart = tt
below x (y ∷ ys) far apart =
    both_are (is_lt (octets_cmp x y)) _ (less x y (far 0 (omega arith)) apart.0) (below x ys (λ j h. far (suc j) (omega arith)) apart.1)

strictly : (xs : List (List ℕ)) → IsSorted octets_cmp xs → IsDistinct is_id xs → T (finite.is_sorted octets_cmp (paired xs))
unfolding IsDistinct
strictly [] up apart = tt
strictly (x ∷ xs) up apart =
    and_also (below_all octets_cmp x (paired xs)) (finite.is_sorted octets_cmp (paired xs))
    (below x xs (λ j h. sorted_far (λ x y. is_lt (octets_cmp x y)) (ranks_by octets_total (λ x. x)) (x ∷ xs) up 0 (suc j) [] (omega arith) (omega arith)) apart.0)
    (strictly xs
    (λ k d low high. let shift : suc k + 1 ≡ suc (k + 1) = omega arith in subst
    (λ n. is_lt (octets_cmp (slice_index_or (x ∷ xs) n d) (slice_index_or xs k d)) ≡ false) shift (up (suc k) d (omega arith) (omega arith)))
    apart.1)

-- the live ids, sorted
pub ids-listed : (shard : ℕ) (slots : List Slot) (listed : List (List ℕ)) → length slots ≤ 4096 → IsPermutation (ids_from shard 0 slots) listed
    → IsSorted octets_cmp listed → listed ≡ ascending (live_of shard slots)
ids-listed shard slots listed few moved up =
    rising-same listed (live_of shard slots)
    (strictly listed up (IsDistinct-IsPermutation is_id (eq_by_cmp_equiv octets_total).symm (ids_from shard 0 slots) listed moved
    (distinct-ids_from shard 0 slots (omega arith))))
    (λ q. sym (list_any-IsPermutation (is_id q) (ids_from shard 0 slots) listed moved) ∙ sym (set.contains-from_list octets_total (ids_from shard 0 slots) q))

-- ---- a set of ids, one after the other

pub from-ascending : (ids : set.FinSet octets_cmp) → set.from_list (ascending ids) ≡ ids
from-ascending ids =
    set.same_set octets_total octets_exact _ _ (λ q. set.contains-from_list octets_total (ascending ids) q ∙ any-ascending ids q)

any-push : (q x : List ℕ) (xs : List (List ℕ)) → list_any (is_id q) (xs ++ x ∷ []) ≡ (list_any (is_id q) xs || is_id q x)
any-push q x [] = elim (is_id q x) as (λ b. (b || false) ≡ b) [ true ↦ refl | false ↦ refl ]
any-push q x (y ∷ xs) =
    elim (is_id q y) as (λ b. (b || list_any (is_id q) (xs ++ x ∷ [])) ≡ ((b || list_any (is_id q) xs) || is_id q x)) [ true ↦ refl | false ↦ any-push q x xs ]

-- the last one is in it
pub last-contained : (xs : List (List ℕ)) (x : List ℕ) → set.contains (set.from_list {R = octets_cmp} (xs ++ x ∷ [])) x ≡ true
last-contained xs x =
    set.contains-from_list octets_total (xs ++ x ∷ []) x ∙ any-push x x xs ∙ ap (λ b. list_any (is_id x) xs || b) (eq_octets x x refl) ∙ or_true (list_any (is_id x) xs)
  where
    or_true : (b : Bool) → (b || true) ≡ true
    or_true true = refl
    or_true false = refl

not_in : (z x : List ℕ) (zs ys : List (List ℕ)) → list_any (is_id z) (zs ++ x ∷ ys) ≡ false → is_id z x ≡ false
not_in z x [] ys none = elim (is_id z x) as (λ b. (b || list_any (is_id z) ys) ≡ false → b ≡ false) [ true ↦ λ e. e | false ↦ λ _. refl ] none
not_in z x (y ∷ zs) ys none =
    not_in z x zs ys (elim (is_id z y) as (λ b. (b || list_any (is_id z) (zs ++ x ∷ ys)) ≡ false → list_any (is_id z) (zs ++ x ∷ ys) ≡ false) [
      | true ↦ λ e. absurd (true≢false e)
      | false ↦ λ e. e
    ] none)

-- the set without the last one
pub last-removed : (xs ys : List (List ℕ)) (x : List ℕ) → AreDistinct (xs ++ x ∷ ys)
    → set.remove (set.from_list {R = octets_cmp} (xs ++ x ∷ [])) x ≡ set.from_list xs
last-removed xs ys x apart =
    set.same_set octets_total octets_exact _ _ (λ q.
    set.contains-remove octets_total (set.from_list (xs ++ x ∷ [])) x q
    ∙ ap (λ b. not (is_id q x) && b) (set.contains-from_list octets_total (xs ++ x ∷ []) q ∙ any-push q x xs)
    ∙ kept q xs apart
    ∙ sym (set.contains-from_list octets_total xs q))
  where
    without : (a b c : Bool) → a ≡ false → (not c && (a || b)) ≡ (not c && b)
    without true b c e = absurd (true≢false e)
    without false b c e = refl

    not_both : (c : Bool) → (not c && c) ≡ false
    not_both true = refl
    not_both false = refl

    -- an id of the list that is cut before x is not x
    kept : (q : List ℕ) (zs : List (List ℕ)) → AreDistinct (zs ++ x ∷ ys) → (not (is_id q x) && (list_any (is_id q) zs || is_id q x)) ≡ list_any (is_id q) zs
    kept q [] d = not_both (is_id q x)
    kept q (z ∷ zs) d =
        elim (is_id q z) as (λ b. is_id q z ≡ b → (not (is_id q x) && ((b || list_any (is_id q) zs) || is_id q x)) ≡ (b || list_any (is_id q) zs)) [
          | true ↦ λ e. ap (λ b. not b && true) (ap (λ p. is_id p x) (same_octets q z e) ∙ not_in z x zs ys d.0)
          | false ↦ λ _. kept q zs d.1
        ] refl

-- ---- ids are set back, from the last on

pub back_begun : (v : LiveIds) (ids : List (List ℕ)) (n : ℕ) → ids ≡ ascending v.live → length ids ≤ n
    → v ≡ record v { live = set.from_list (take n ids); supply = untaken_all v.supply (drop n ids) }
back_begun v ids n e all =
    let live : v.live ≡ set.from_list (take n ids) =
    sym (ap (λ (xs : List (List ℕ)). set.from_list {R = octets_cmp} xs) (take_all n ids all ∙ e) ∙ from-ascending v.live) in
    let supply : v.supply ≡ untaken_all v.supply (drop n ids) = ap (untaken_all v.supply) (sym (drop_all n ids all)) in
    λ i. record { shard = v.shard; live = live i; freed_last = v.freed_last; supply = supply i }

module _ (v w : LiveIds) (ids : List (List ℕ)) (n p : ℕ) (x : List ℕ) (one : p + 1 ≡ n) (within : p < length ids) (at : x ≡ get_or ids p x)
    (far : w ≡ record v { live = set.from_list (take n ids); supply = untaken_all v.supply (drop n ids) }) where
  taken_to : take n ids ≡ take p ids ++ x ∷ []
  taken_to = ap (λ m. take m ids) (sym one) ∙ take_more ids p x within ∙ ap (λ y. take p ids ++ y ∷ []) (sym at)

  dropped_to : drop p ids ≡ x ∷ drop n ids
  dropped_to = drop_more ids p x within ∙ ap (λ y. y ∷ drop (p + 1) ids) (sym at) ∙ ap (λ m. x ∷ drop m ids) one

  pub back_live : is_live w x ≡ true
  back_live =
      ap (λ (u : LiveIds). is_live u x) far ∙ ap (λ (xs : List (List ℕ)). set.contains (set.from_list {R = octets_cmp} xs) x) taken_to
      ∙ last-contained (take p ids) x

  pub back_more : AreDistinct ids → record w { live = set.remove w.live x; supply = untaken w.supply x }
      ≡ record v { live = set.from_list (take p ids); supply = untaken_all v.supply (drop p ids) }
  back_more apart =
      let cut : AreDistinct (take p ids ++ x ∷ drop n ids) =
      subst AreDistinct (sym (take-append-drop p ids) ∙ ap (λ (xs : List (List ℕ)). take p ids ++ xs) dropped_to) apart in
      let live : set.remove (set.from_list (take n ids)) x ≡ set.from_list {R = octets_cmp} (take p ids) =
      ap (λ (xs : List (List ℕ)). set.remove (set.from_list {R = octets_cmp} xs) x) taken_to ∙ last-removed (take p ids) (drop n ids) x cut in
      let supply : untaken (untaken_all v.supply (drop n ids)) x ≡ untaken_all v.supply (drop p ids) = ap (untaken_all v.supply) (sym dropped_to) in
      ap (λ (u : LiveIds). record u { live = set.remove u.live x; supply = untaken u.supply x }) far
      ∙ (λ i. record { shard = v.shard; live = live i; freed_last = v.freed_last; supply = supply i })
