-- The ids of the entries, sorted, are the keys of the open transactions.
use Rattle.std.proofs.Common.{◌≡◌, ℕ, zero, suc, ◌+◌, ◌<◌, ◌≤◌, Bool, true, false, cond, ◌&&◌, ◌||◌, List, [], ◌∷◌, length, Option, Some, None, refl, sym, ap, ◌∙◌, subst, arith, T, get_or, map}
use Rattle.std.specs.Option.{is_some, unwrap_or}
use Rattle.std.specs.List.{list_any, count_by, slice_index_or}
use Rattle.std.specs.List.Sorted.{IsPermutation, IsSorted}
use Rattle.std.specs.declared.cmp.Ordering.{Ordering}
use Rattle.std.specs.declared.cmp.Ordering.TheVariants.{Less, Equal, Greater}
use Rattle.std.specs.Ordering.{eq_by_cmp, is_lt, is_eq, ordering_reverse}
use Rattle.std.specs.Cmp.{both_ways}
use Rattle.std.specs.FinMap as finite
use Rattle.std.specs.FinMap.Entries.{below_all}
use Rattle.std.proofs.lemmas.List.Sorted.{sum_by-IsPermutation, list_any-IsPermutation, sorted_far, ranks_by}
use Rattle.std.proofs.lemmas.List.Sums.{sum_by-cons}
use Rattle.hlr_types.specs.Orders.{octets_cmp}
use Rattle.hlr_types.proofs.OrderLemmas.{octets_total, octets_exact, same_octets, eq_octets, ne_octets}
use Rattle.machine.specs.State.{Transaction}
use Rattle.slab.specs.Slab.{Slab, entries_from}
use Rattle.tidalloc.specs.LiveIds.{LiveIds, is_live, slot_of}
use Rattle.tsl.specs.declared.transactions.Entry.{Entry}
use Rattle.tsl.specs.Transactions.{at, initiated}
use Rattle.tsl.specs.Table.{open_of, ids_of_entries, AreEntries}
use Rattle.tsl.proofs.ViewLemmas.{id_in, is_some-at}

abbrev is_id : List ℕ → List ℕ → Bool
is_id q = eq_by_cmp octets_cmp q

count-cons : (q x : List ℕ) (xs : List (List ℕ)) → count_by (is_id q) (x ∷ xs) ≡ cond (is_id q x) 1 0 + count_by (is_id q) xs
count-cons q x xs = sum_by-cons (λ x. cond (is_id q x) 1 0) x xs

-- ---- which ids the entries have
abbrev ids_from : ℕ → List (Option Entry) → List (List ℕ)
ids_from first slots = map (λ (e : ℕ × Entry). e.1.id) (entries_from first slots)

-- an id that some slot has
has_id : (first : ℕ) (slots : List (Option Entry)) (k : ℕ) (q : List ℕ) → id_in (slice_index_or slots k None) ≡ Some q
    → list_any (is_id q) (ids_from first slots) ≡ true
has_id first [] k q e = cc
has_id first (None ∷ slots) zero q e = cc
has_id first (None ∷ slots) (suc k) q e = has_id (first + 1) slots k q e
has_id first (Some x ∷ slots) zero q e = let same : q ≡ x.id = cc in ap (λ b. b || list_any (is_id q) (ids_from (first + 1) slots)) (eq_octets q x.id same)
has_id first (Some x ∷ slots) (suc k) q e =
    elim (is_id q x.id) as (λ b. (b || list_any (is_id q) (ids_from (first + 1) slots)) ≡ true) [ true ↦ refl | false ↦ has_id (first + 1) slots k q e ]

-- the slot that has an id
slot_with : (first : ℕ) (slots : List (Option Entry)) (q : List ℕ) → list_any (is_id q) (ids_from first slots) ≡ true
    → (k : ℕ) × (e : Entry) × (slice_index_or slots k None ≡ Some e) × (q ≡ e.id)
slot_with first [] q h = cc
slot_with first (None ∷ slots) q h = let rest = slot_with (first + 1) slots q h in (suc rest.0, rest.1, rest.2, rest.3)
slot_with first (Some x ∷ slots) q h =
    elim (is_id q x.id) as (λ b. is_id q x.id ≡ b → (b || list_any (is_id q) (ids_from (first + 1) slots)) ≡ true → (k : ℕ) ×
    (e : Entry) × (slice_index_or (Some x ∷ slots) k None ≡ Some e) × (q ≡ e.id)) [
      | true ↦ λ e _. (0, x, refl, same_octets q x.id e)
      | false ↦ λ _ more. let rest = slot_with (first + 1) slots q more in (suc rest.0, rest.1, rest.2, rest.3)
    ] refl h

-- ---- each id once
module _ (keys : List ℕ) where
  -- the key of each entry's slot leads to it
  abbrev LeadTo : ℕ → List (Option Entry) → Type 0
  LeadTo first slots = (k : ℕ) (e : Entry) → slice_index_or slots k None ≡ Some e → get_or keys (slot_of e.id) 0 ≡ first + k

  later : (first : ℕ) (slot : Option Entry) (slots : List (Option Entry)) → LeadTo first (slot ∷ slots) → LeadTo (first + 1) slots
  later first slot slots lead = λ k e stands. let here = lead (suc k) e stands in omega arith

  not_before : (first : ℕ) (slots : List (Option Entry)) (q : List ℕ) → LeadTo first slots → get_or keys (slot_of q) 0 < first
      → count_by (is_id q) (ids_from first slots) ≡ 0
  not_before first [] q lead before = refl
  not_before first (None ∷ slots) q lead before = not_before (first + 1) slots q (later first None slots lead) (omega arith)
  not_before first (Some x ∷ slots) q lead before =
      let rest = not_before (first + 1) slots q (later first (Some x) slots lead) (omega arith) in
      let other : is_id q x.id ≡ false = ne_octets q x.id (λ same. let here = lead 0 x refl in let key : get_or keys (slot_of q) 0
      ≡ get_or keys (slot_of x.id) 0 = ap (λ i. get_or keys (slot_of i) 0) same in absurd (omega arith)) in
      let none : ◌≡◌ {A = ℕ} (cond (is_id q x.id) 1 0) 0 = ap (λ b. cond b 1 0) other in
      omega (arith, count-cons q x.id (ids_from (first + 1) slots), none, rest)

  pub once : (first : ℕ) (slots : List (Option Entry)) (q : List ℕ) → LeadTo first slots → count_by (is_id q) (ids_from first slots) ≤ 1
  once first [] q lead = omega arith
  once first (None ∷ slots) q lead = once (first + 1) slots q (later first None slots lead)
  once first (Some x ∷ slots) q lead =
      elim (is_id q x.id) as (λ b. is_id q x.id ≡ b → count_by (is_id q) (ids_from first (Some x ∷ slots)) ≤ 1) [
        | true ↦ λ same.
            let key : get_or keys (slot_of q) 0 ≡ get_or keys (slot_of x.id) 0 = ap (λ i. get_or keys (slot_of i) 0) (same_octets q x.id same) in
            let here = lead 0 x refl in
            let rest = not_before (first + 1) slots q (later first (Some x) slots lead) (omega arith) in
            let one : ◌≡◌ {A = ℕ} (cond (is_id q x.id) 1 0) 1 = ap (λ b. cond b 1 0) same in
            omega (arith, count-cons q x.id (ids_from (first + 1) slots), one, rest)
        | false ↦ λ other.
            let none : ◌≡◌ {A = ℕ} (cond (is_id q x.id) 1 0) 0 = ap (λ b. cond b 1 0) other in
            omega (arith, count-cons q x.id (ids_from (first + 1) slots), none, once (first + 1) slots q (later first (Some x) slots lead))
      ] refl

-- ---- sorted, and each once
less : (x y : List ℕ) → is_lt (octets_cmp y x) ≡ false → is_id x y ≡ false → is_lt (octets_cmp x y) ≡ true
less x y not_less other = look (octets_cmp y x) (octets_cmp x y) (octets_total.antisymm x y) not_less other
  where
    look : (r s : Ordering) → s ≡ ordering_reverse r → is_lt r ≡ false → is_eq s ≡ false → is_lt s ≡ true
    look Less s e h o = cc
    look Equal s e h o = let x : is_eq s ≡ true = ap is_eq e in cc
    look Greater s e h o = ap is_lt e

count-none : (x y : List ℕ) (ys : List (List ℕ)) → count_by (is_id x) (y ∷ ys) ≡ 0 → (is_id x y ≡ false) × (count_by (is_id x) ys ≡ 0)
count-none x y ys none = look (is_id x y) refl
  where
    look : (b : Bool) → is_id x y ≡ b → (is_id x y ≡ false) × (count_by (is_id x) ys ≡ 0)
    look true e = let one : ◌≡◌ {A = ℕ} (cond (is_id x y) 1 0) 1 = ap (λ b. cond b 1 0) e in absurd (omega (arith, count-cons x y ys, one, none))
    look false e = let zero_here : ◌≡◌ {A = ℕ} (cond (is_id x y) 1 0) 0 = ap (λ b. cond b 1 0) e in (e, omega (arith, count-cons x y ys, zero_here, none))

count-rest : (x y : List ℕ) (ys : List (List ℕ)) → count_by (is_id x) (y ∷ ys) ≤ 1 → count_by (is_id x) ys ≤ 1
count-rest x y ys most = omega (arith, count-cons x y ys, most)

count-first : (x : List ℕ) (xs : List (List ℕ)) → count_by (is_id x) (x ∷ xs) ≤ 1 → count_by (is_id x) xs ≡ 0
count-first x xs most =
    let one : ◌≡◌ {A = ℕ} (cond (is_id x x) 1 0) 1 = ap (λ b. cond b 1 0) (eq_octets x x refl) in
    omega (arith, count-cons x x xs, one, most)

both : (a b : Bool) → a ≡ true → T b → T (a && b)
both a b e h = subst (λ c. T (c && b)) (sym e) h

module _ (v : List ℕ → Transaction) where
  abbrev paired : List (List ℕ) → List (List ℕ × Transaction)
  paired xs = map (λ (k : List ℕ). (k, v k)) xs

  below : (x : List ℕ) (xs : List (List ℕ)) → ((j : ℕ) → j < length xs → is_lt (octets_cmp (get_or xs j []) x) ≡ false) → count_by (is_id x) xs ≡ 0
      → T (below_all octets_cmp x (paired xs))
  below x [] far none = tt
  below x (y ∷ ys) far none =
      let split = count-none x y ys none in
      both (is_lt (octets_cmp x y)) _ (less x y (far 0 (omega arith)) split.0) (below x ys (λ j h. far (suc j) (omega arith)) split.1)

  strictly : (xs : List (List ℕ)) → IsSorted octets_cmp xs → ((q : List ℕ) → count_by (is_id q) xs ≤ 1) → T (finite.is_sorted octets_cmp (paired xs))
  strictly [] up each = tt
  strictly (x ∷ xs) up each =
      T-and (below_all octets_cmp x (paired xs)) (finite.is_sorted octets_cmp (paired xs))
      (below x xs (λ j h. sorted_far (λ x y. is_lt (octets_cmp x y)) (ranks_by octets_total (λ x. x)) (x ∷ xs) up 0 (suc j) [] (omega arith) (omega arith))
      (count-first x xs (each x)))
      (strictly xs
      (λ k d low high. let shift : suc k + 1 ≡ suc (k + 1) = omega arith in subst
      (λ n. is_lt (octets_cmp (slice_index_or (x ∷ xs) n d) (slice_index_or xs k d)) ≡ false) shift (up (suc k) d (omega arith) (omega arith)))
      (λ q. count-rest q x xs (each q)))
    where
      T-and : (a b : Bool) → T a → T b → T (a && b)
      T-and true b h g = g
      T-and false b h g = absurd h

  find-paired : (q : List ℕ) (xs : List (List ℕ)) → finite.find octets_cmp q (paired xs) ≡ cond (list_any (is_id q) xs) (Some (v q)) None
  find-paired q [] = refl
  find-paired q (x ∷ xs) =
      elim (is_id q x) as (λ b. is_id q x ≡ b → cond b (Some (v x)) (finite.find octets_cmp q (paired xs))
      ≡ cond (b || list_any (is_id q) xs) (Some (v q)) None) [
        | true ↦ λ e. ap (λ i. Some (v i)) (sym (same_octets q x e))
        | false ↦ λ _. find-paired q xs
      ] refl

  keys-paired : (xs : List (List ℕ)) → map (λ (e : List ℕ × Transaction). e.0) (paired xs) ≡ xs
  keys-paired [] = refl
  keys-paired (x ∷ xs) = ap (λ ys. x ∷ ys) (keys-paired xs)

-- ---- the ids of all entries, sorted
module _ (ids : LiveIds) (keys : List ℕ) (slab : Slab Entry) (room : ℕ) (a : AreEntries ids keys slab room) (listed : List (List ℕ))
    (moved : IsPermutation (ids_of_entries slab) listed) (up : IsSorted octets_cmp listed) where
  lead : LeadTo keys 0 slab.slots
  lead = λ k e stands. (a.no_other k e stands).found ∙ (let e : k ≡ 0 + k = omega arith in e)

  any-live : (q : List ℕ) → list_any (is_id q) (ids_of_entries slab) ≡ is_live ids q
  any-live q = both_ways (list_any (is_id q) (ids_of_entries slab)) (is_live ids q)
      (λ found. let slot = slot_with 0 slab.slots q found in ap (is_live ids) slot.3 ∙ (a.no_other slot.0 slot.1 slot.2).live)
      (λ live. has_id 0 slab.slots (get_or keys (slot_of q) 0) q (a.own q live))

  each_once : (q : List ℕ) → count_by (is_id q) listed ≤ 1
  each_once q =
      let same = sum_by-IsPermutation (λ x. cond (is_id q x) 1 0) (ids_of_entries slab) listed moved in
      omega (arith, same, once keys 0 slab.slots q lead)

  value : List ℕ → Transaction
  value q = unwrap_or (at (open_of ids keys slab room) q) (initiated [])

  there : (q : List ℕ) → cond (is_live ids q) (Some (value q)) None ≡ at (open_of ids keys slab room) q
  unfolding value
  there q = look (at (open_of ids keys slab room) q) (is_live ids q) (is_some-at ids keys slab room a q)
    where
      look : (o : Option Transaction) (b : Bool) → is_some o ≡ b → cond b (Some (unwrap_or o (initiated []))) None ≡ o
      look None true e = cc
      look None false e = refl
      look (Some t) true e = refl
      look (Some t) false e = cc

  pub keys-listed : listed ≡ finite.keys (open_of ids keys slab room).open_ones
  keys-listed =
      let rises = strictly value listed up each_once in
      let same : finite.from_sorted {R = octets_cmp} (paired value listed) ≡ (open_of ids keys slab room).open_ones =
      finite.same_map octets_total octets_exact _ _ (λ q.
      finite.get-from_sorted octets_cmp (paired value listed) q rises
      ∙ find-paired value q listed
      ∙ ap (λ b. cond b (Some (value q)) None) (sym (list_any-IsPermutation (is_id q) (ids_of_entries slab) listed moved) ∙ any-live q)
      ∙ there q) in
      sym (keys-paired value listed) ∙ ap (map (λ (e : List ℕ × Transaction). e.0)) (sym (finite.entries-from_sorted octets_cmp (paired value listed) rises))
      ∙ ap finite.keys same
