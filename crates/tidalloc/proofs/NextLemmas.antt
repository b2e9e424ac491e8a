-- The slot that is used next, and its next id.
use Rattle.std.proofs.Common.{◌≡◌, ℕ, zero, suc, ◌-◌, ◌<◌, ◌≤◌, Bool, true, false, cond, ◌&&◌, List, [], ◌∷◌, ◌++◌, length, Option, Some, None, IfSome, refl, sym, ap, ◌∙◌, arith, get_or, ltb, subst, ◌⊎◌, inl, inr}
use Rattle.std.proofs.Math.ListN.{length-append}
use Rattle.std.proofs.Math.Seq.{get_or-append_seam}
use Rattle.std.proofs.lemmas.Bool.{lt-ltb, ltb-true, ltb-false}
use Rattle.std.proofs.lemmas.Option.{slice_get_past}
use Rattle.std.specs.List.{slice_get}
use Rattle.std.specs.Ordering.{eq_by_cmp}
use Rattle.std.specs.FinSet as set
use Rattle.hlr_types.specs.Orders.{octets_cmp}
use Rattle.hlr_types.proofs.OrderLemmas.{eq_octets}
use Rattle.tidalloc.proofs.IdLemmas.{slot_of-id_at, IsIdOf-id_at, next_generation-is}
use Rattle.tidalloc.proofs.SlotLemmas.{contains-live_of, within_free}
use Rattle.tidalloc.specs.declared.slot.Slot.{Slot}
use Rattle.tidalloc.specs.LiveIds.{id_at, slot_of, next_generation, MayBeTaken}
use Rattle.tidalloc.specs.Slots.{live_of, ids_of, is_at, comes_at, is_free, generation_in, AreSlots}
use Rattle.tidalloc.proofs.SupplyLemmas.{slot_next, id_next}

-- no id of the slot is live
pub is_unused : Option Slot → Bool
is_unused None = true
is_unused (Some s) = cond s.is_live false true

pub unused_free : (o : Option Slot) → is_free o ≡ true → is_unused o ≡ true
unfolding is_unused
unused_free None e = refl
unused_free (Some s) e = e

pub unused_past : (slots : List Slot) → is_unused (slice_get slots (length slots)) ≡ true
unfolding is_unused
unused_past slots = ap is_unused (slice_get_past slots (length slots) (omega arith))

pub none_at_unused : (shard : ℕ) (q : List ℕ) (o : Option Slot) → is_unused o ≡ true → is_at shard q o ≡ false
unfolding is_unused
none_at_unused shard q None e = refl
none_at_unused shard q (Some s) e = elim s.is_live as (λ b. cond b false true ≡ true
    → (b && eq_by_cmp octets_cmp q (id_at shard (slot_of q) s.generation)) ≡ false) [ true ↦ λ e. cc | false ↦ λ e. refl ] e

-- an id that does not come next at an unused slot is not that slot's next id
not_coming : (shard first k : ℕ) (id : List ℕ) (o : Option Slot) → is_unused o ≡ true → comes_at shard id o ≡ false → slot_of id ≡ k
    → id ≡ id_at shard k (next_generation (generation_in first o)) → ⊥
unfolding is_unused
not_coming shard first k id None free other here same = cc
not_coming shard first k id (Some s) free other here same =
    let is = eq_octets id (id_at shard (slot_of id) (next_generation s.generation)) (same ∙ ap (λ n. id_at shard n (next_generation s.generation)) (sym here)) in
    elim s.is_live as (λ b. cond b false true ≡ true
    → cond b false (eq_by_cmp octets_cmp id (id_at shard (slot_of id) (next_generation s.generation))) ≡ false → ⊥) [
      | true ↦ λ f o. cc
      | false ↦ λ f o. cc
    ] free other

module _ (shard : ℕ) (first : ℕ) (slots : List Slot) (free : List ℕ) (freed : Option (List ℕ)) (room of_free : ℕ) (a : AreSlots shard first slots free freed room of_free) where
  -- the next id of an unused slot may be taken
  module _ (k : ℕ) (small : k < 4096) (unused : is_unused (slice_get slots k) ≡ true) where
    another : (id : List ℕ) → freed ≡ Some id → id ≡ id_at shard k (next_generation (generation_in first (slice_get slots k))) → ⊥
    another id e same =
        let g = generation_in first (slice_get slots k) in
        let here : slot_of id ≡ k = ap slot_of same ∙ slot_of-id_at shard k (next_generation g) small in
        let other : comes_at shard id (slice_get slots k) ≡ false =
        ap (λ n. comes_at shard id (slice_get slots n)) (sym here) ∙ (a.freed id e).not_next in
        not_coming shard first k id (slice_get slots k) unused other here same

    pub may_take : MayBeTaken (ids_of shard first slots free freed) (id_at shard k (next_generation (generation_in first (slice_get slots k))))
    may_take =
        let g = generation_in first (slice_get slots k) in
        let h = next_generation g in
        let is = next_generation-is g (a.generations k) in
        record {
          of_shard = IsIdOf-id_at shard k h a.in_range small is.0 is.1;
          not_live = contains-live_of shard (id_at shard k h) slots a.few
              ∙ ap (λ n. is_at shard (id_at shard k h) (slice_get slots n)) (slot_of-id_at shard k h small)
              ∙ none_at_unused shard (id_at shard k h) (slice_get slots k) unused;
          not_freed_last = λ e. another (id_at shard k h) e refl;
        }

pub slot_next-push : (slots : List Slot) (free : List ℕ) (k : ℕ) → slot_next slots (free ++ k ∷ []) ≡ k
slot_next-push slots free k =
    let last : length (free ++ k ∷ []) - 1 ≡ length free = omega (arith, length-append free (k ∷ [])) in
    ap (λ i. get_or (free ++ k ∷ []) i (length slots)) last ∙ get_or-append_seam free k [] (length slots)

pub id_next-small : (shard first : ℕ) (slots : List Slot) (k : ℕ) → k < 4096
    → id_next shard first slots k ≡ Some (id_at shard k (next_generation (generation_in first (slice_get slots k))))
id_next-small shard first slots k small = ap (λ b. cond b (Some (id_at shard k (next_generation (generation_in first (slice_get slots k))))) None) (lt-ltb k 4096 small)

get_or-default : (xs : List ℕ) (i d e : ℕ) → i < length xs → get_or xs i d ≡ get_or xs i e
get_or-default [] i d e h = absurd (omega arith)
get_or-default (x ∷ xs) zero d e h = refl
get_or-default (x ∷ xs) (suc i) d e h = get_or-default xs i d e (omega arith)

-- the slot that is used next is unused
pub unused_next : (shard first : ℕ) (slots : List Slot) (free : List ℕ) (freed : Option (List ℕ)) (room of_free : ℕ) → AreSlots shard first slots free freed room of_free
    → is_unused (slice_get slots (slot_next slots free)) ≡ true
unused_next shard first slots [] freed room of_free a = unused_past slots
unused_next shard first slots (f ∷ fs) freed room of_free a =
    let last : length (f ∷ fs) - 1 < length (f ∷ fs) = omega arith in
    ap (λ n. is_unused (slice_get slots n)) (get_or-default (f ∷ fs) (length (f ∷ fs) - 1) (length slots) 0 last)
    ∙ unused_free _ (a.free_ones (length (f ∷ fs) - 1) last)

-- there is a slot to be used next exactly if not all are live
pub next_small : (shard first : ℕ) (slots : List Slot) (free : List ℕ) (freed : Option (List ℕ)) (room of_free : ℕ) → AreSlots shard first slots free freed room of_free
    → ((slot_next slots free < 4096) × (set.len (live_of shard slots) ≡ 4096 → ⊥)) ⊎ ((slot_next slots free ≡ 4096) × (set.len (live_of shard slots) ≡ 4096))
next_small shard first slots [] freed room of_free a = by_room (ltb (length slots) 4096) refl
  where
    by_room : (b : Bool) → ltb (length slots) 4096 ≡ b → ((length slots < 4096) × (set.len (live_of shard slots) ≡ 4096 → ⊥))
        ⊎ ((length slots ≡ 4096) × (set.len (live_of shard slots) ≡ 4096))
    by_room true e = let few = ltb-true _ _ e in inl (few, λ all. omega (arith, a.counted, few, all))
    by_room false e =
        let most : 4096 ≤ length slots = ltb-false _ _ e in
        inr (omega (arith, a.few, most), omega (arith, a.few, most, a.counted))
next_small shard first slots (f ∷ fs) freed room of_free a =
    let last : length (f ∷ fs) - 1 < length (f ∷ fs) = omega arith in
    let at = get_or-default (f ∷ fs) (length (f ∷ fs) - 1) (length slots) 0 last in
    let within = within_free slots (get_or (f ∷ fs) (length (f ∷ fs) - 1) 0) (a.free_ones (length (f ∷ fs) - 1) last) in
    inl (omega (arith, at, within, a.few), λ all. omega (arith, a.counted, a.few, all))

-- the next id, if there is one, may be taken
pub next_may : (shard first : ℕ) (slots : List Slot) (free : List ℕ) (freed : Option (List ℕ)) (room of_free : ℕ) → AreSlots shard first slots free freed room of_free → (id : List ℕ)
    → id_next shard first slots (slot_next slots free) ≡ Some id → MayBeTaken (ids_of shard first slots free freed) id
next_may shard first slots free freed room of_free a id e = elim (next_small shard first slots free freed room of_free a) [
  | inl few ↦
      let is = id_next-small shard first slots (slot_next slots free) few.0 in
      let same : id_at shard (slot_next slots free) (next_generation (generation_in first (slice_get slots (slot_next slots free)))) ≡ id = cc in
      subst (MayBeTaken (ids_of shard first slots free freed)) same (may_take shard first slots free freed room of_free a (slot_next slots free) few.0
      (unused_next shard first slots free freed room of_free a))
  | inr full ↦ absurd (none full.0)
]
  where
    none : slot_next slots free ≡ 4096 → ⊥
    none all =
        let n : id_next shard first slots (slot_next slots free) ≡ None = ap (id_next shard first slots) all in
        cc

pub next_all_may : (shard first : ℕ) (slots : List Slot) (free : List ℕ) (freed : Option (List ℕ)) (room of_free : ℕ) → AreSlots shard first slots free freed room of_free
    → IfSome (id_next shard first slots (slot_next slots free)) (MayBeTaken (ids_of shard first slots free freed))
next_all_may shard first slots free freed room of_free a = each (id_next shard first slots (slot_next slots free)) refl
  where
    each : (o : Option (List ℕ)) → id_next shard first slots (slot_next slots free) ≡ o → IfSome o (MayBeTaken (ids_of shard first slots free freed))
    each None e = tt
    each (Some id) e = next_may shard first slots free freed room of_free a id e
