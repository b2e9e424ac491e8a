-- The table of slots, after a slot is used under a given id, and after a live id is set back.
use Rattle.std.proofs.Common.{◌≡◌, ℕ, ◌+◌, ◌*◌, ◌<◌, true, false, cond, ◌&&◌, List, [], ◌∷◌, ◌++◌, length, Option, Some, None, refl, sym, ap, ◌∙◌, subst, arith, inl, inr, get_or}
use Rattle.std.proofs.Math.ListN.{set, length-append}
use Rattle.std.proofs.lemmas.Bool.{cases_eq, true≢false}
use Rattle.std.proofs.lemmas.Option.{slice_get_past}
use Rattle.std.specs.List.{slice_get}
use Rattle.std.specs.Ordering.{eq_by_cmp}
use Rattle.std.specs.FinSet as set
use Rattle.hlr_types.specs.Orders.{octets_cmp}
use Rattle.hlr_types.specs.Ids.{id_of, number_of, IsIdOf}
use Rattle.hlr_types.proofs.IdLemmas.{id_of-number_of}
use Rattle.hlr_types.proofs.OrderLemmas.{octets_total}
use Rattle.tidalloc.proofs.IdLemmas.{slot_of-id_at, generation_of-id_at, IsIdOf-id_at, generation_before-is}
use Rattle.tidalloc.proofs.NextLemmas.{none_at_unused, unused_past}
use Rattle.tidalloc.proofs.SlotLemmas.{contains-live_of, Puts, live_of-take, within_free, within_at, puts-push}
use Rattle.tidalloc.proofs.StepLemmas.{is_small, is_begun, kept_slots, kept_freed, free_before, is_own, slots_freed, puts_spent, live_spent, free_has_room}
use Rattle.tidalloc.proofs.SupplyLemmas.{generations, counted, generations-push, generations-set}
use Rattle.tidalloc.specs.declared.slot.Slot.{Slot}
use Rattle.tidalloc.specs.LiveIds.{id_at, slot_of, generation_of, next_generation}
use Rattle.tidalloc.specs.Resumed.{IsNextUnused, with_used, generation_before, untaken}
use Rattle.tidalloc.specs.Slots.{live_of, ids_of, supply_of, is_at, comes_at, is_free, generation_in, WasFreed, AreSlots}

-- ---- a slot is used

-- the id of a shard is that of its slot at its generation
pub own-id : (shard : ℕ) (id : List ℕ) → IsIdOf shard id → id ≡ id_at shard (slot_of id) (generation_of id)
own-id shard id of =
    let divided : number_of id ≡ generation_of id * 4096 + slot_of id = omega arith in
    sym (id_of-number_of id of.four of.octets) ∙ ap (λ n. id_of n (number_of id)) of.shard_first ∙ ap (id_of shard) divided

-- the id is that of the slot after the last, at a generation that is not 0
pub is_next_unused : (shard first : ℕ) (slots : List Slot) (free : List ℕ) (freed : Option (List ℕ)) (room of_free : ℕ) (id : List ℕ)
    → AreSlots shard first slots free freed room of_free → length slots < 4096 → 0 < generation_of id → generation_of id < 4096
    → id ≡ id_at shard (length slots) (generation_of id) → IsNextUnused (ids_of shard first slots free freed) id
is_next_unused shard first slots free freed room of_free id a few begun small same = record {
  of_shard = subst (IsIdOf shard) (sym same) (IsIdOf-id_at shard (length slots) (generation_of id) a.in_range few begun small);
  slot = ap slot_of same ∙ slot_of-id_at shard (length slots) (generation_of id) few ∙ sym (counted slots);
  few = omega (arith, counted slots, few);
  begun = begun;
}

pub of_next_unused : (shard first : ℕ) (slots : List Slot) (free : List ℕ) (freed : Option (List ℕ)) (id : List ℕ)
    → IsNextUnused (ids_of shard first slots free freed) id → (length slots < 4096) × (id ≡ id_at shard (length slots) (generation_of id))
of_next_unused shard first slots free freed id is =
    (omega (arith, counted slots, is.few), own-id shard id is.of_shard ∙ ap (λ n. id_at shard n (generation_of id)) (is.slot ∙ counted slots))

module _ (shard first : ℕ) (slots : List Slot) (free : List ℕ) (freed : Option (List ℕ)) (room of_free g : ℕ)
    (a : AreSlots shard first slots free freed room of_free) (few : length slots < 4096) (begun : 0 < g) (small : g < 4096) where
  abbrev longer : List Slot
  longer = slots ++ record { generation = g; is_live = true } ∷ []

  puts_used : Puts slots longer (length slots) (record { generation = g; is_live = true })
  puts_used = puts-push slots _ few

  live_used : live_of shard longer ≡ set.insert (live_of shard slots) (id_at shard (length slots) g)
  live_used = live_of-take shard slots longer (length slots) g puts_used (λ q. none_at_unused shard q (slice_get slots (length slots)) (unused_past slots))

  not_yet : set.contains (live_of shard slots) (id_at shard (length slots) g) ≡ false
  not_yet =
      contains-live_of shard (id_at shard (length slots) g) slots a.few
      ∙ ap (λ n. is_at shard (id_at shard (length slots) g) (slice_get slots n)) (slot_of-id_at shard (length slots) g few)
      ∙ none_at_unused shard (id_at shard (length slots) g) (slice_get slots (length slots)) (unused_past slots)

  one_more : set.len (live_of shard longer) ≡ set.len (live_of shard slots) + 1
  one_more =
      ap set.len live_used
      ∙ set.len-insert octets_total (live_of shard slots) (id_at shard (length slots) g)
      ∙ ap (λ b. cond b (set.len (live_of shard slots)) (set.len (live_of shard slots) + 1)) not_yet

  -- the id freed last had a slot
  another : (id : List ℕ) → WasFreed shard slots id → id ≡ id_at shard (length slots) g → ⊥
  another id w same =
      let here : slot_of id ≡ length slots = ap slot_of same ∙ slot_of-id_at shard (length slots) g few in
      let past : comes_at shard id (slice_get slots (slot_of id)) ≡ true =
      ap (λ n. comes_at shard id (slice_get slots n)) here ∙ ap (comes_at shard id) (slice_get_past slots (length slots) (omega arith)) in
      true≢false (sym past ∙ w.not_next)

  pub slots_used : AreSlots shard first longer free freed room of_free
  slots_used = record {
    in_range = a.in_range;
    first_small = a.first_small;
    few = puts_used.still_few;
    room_for_slots = a.room_for_slots;
    room_for_free = a.room_for_free;
    counted = omega (
      arith,
      a.counted,
      one_more,
      length-append slots (record { generation = g; is_live = true } ∷ []),
    );
    generations = kept_slots (is_small first) slots longer (length slots) _ puts_used small a.generations;
    begun = kept_slots is_begun slots longer (length slots) _ puts_used begun a.begun;
    free_ones = λ i h.
        let within = within_free slots (get_or free i 0) (a.free_ones i h) in
        ap is_free (puts_used.there (get_or free i 0) (λ e. omega (arith, within, e))) ∙ a.free_ones i h;
    all_free = λ k e. a.all_free k (free_before slots longer (length slots) _ puts_used k refl e).1;
    different = a.different;
    freed = λ id e. kept_freed shard slots longer (length slots) g id puts_used (another id (a.freed id e)) (a.freed id e);
  }

  one_generation_more : generations longer ≡ generations slots ++ generation_of (id_at shard (length slots) g) ∷ []
  one_generation_more =
      generations-push slots (record { generation = g; is_live = true })
      ∙ ap (λ h. generations slots ++ h ∷ []) (sym (generation_of-id_at shard (length slots) g few))

  pub ids_of-used : ids_of shard first longer free freed ≡ with_used (ids_of shard first slots free freed) (id_at shard (length slots) g)
  ids_of-used = λ i. record {
    shard = shard;
    live = live_used i;
    freed_last = freed;
    supply = record { first = first; generations = one_generation_more i; free = free };
  }

-- ---- a live id is set back

module _ (shard first : ℕ) (slots : List Slot) (free : List ℕ) (freed : Option (List ℕ)) (room of_free : ℕ) (id : List ℕ)
    (a : AreSlots shard first slots free freed room of_free) (contained : set.contains (live_of shard slots) id ≡ true) where
  live : is_at shard id (slice_get slots (slot_of id)) ≡ true
  live = sym (contains-live_of shard id slots a.few) ∙ contained

  abbrev back : ℕ → List Slot
  back g = set slots (slot_of id) (record { generation = g; is_live = false })

  module _ (s : Slot) (stands : slice_get slots (slot_of id) ≡ Some s) where
    own : (s ≡ record { generation = s.generation; is_live = true }) × (id ≡ id_at shard (slot_of id) s.generation)
    own = is_own shard first slots free freed room of_free id s a stands live

    of_id : generation_of id ≡ s.generation
    of_id = ap generation_of own.1 ∙ generation_of-id_at shard (slot_of id) s.generation (omega arith)

    small : generation_of id < 4096
    small = subst (λ n. n < 4096) (sym of_id) (subst (is_small first) stands (a.generations (slot_of id)))

    begun : 0 < generation_of id
    begun = subst (λ n. 0 < n) (sym of_id) (subst is_begun stands (a.begun (slot_of id)))

    before : (0 < generation_before (generation_of id)) × (generation_before (generation_of id) < 4096)
        × (next_generation (generation_before (generation_of id)) ≡ generation_of id)
    before = generation_before-is (generation_of id) begun small

    puts : Puts slots (back (generation_before (generation_of id))) (slot_of id)
        (record { generation = generation_before (generation_of id); is_live = false })
    puts = puts_spent shard first slots free freed room of_free id s a stands live (generation_before (generation_of id)) before.1 before.0

    -- the id freed last is not this one, which comes next now
    still_freed : (other : List ℕ) → freed ≡ Some other → WasFreed shard (back (generation_before (generation_of id))) other
    still_freed other e = elim (cases_eq (slot_of other) (slot_of id)) [
      | inl same ↦
          let not_live : is_at shard other (Some s) ≡ false =
          ap (is_at shard other) (sym stands) ∙ ap (λ n. is_at shard other (slice_get slots n)) (sym same) ∙ (a.freed other e).not_live in
          let differ : eq_by_cmp octets_cmp other (id_at shard (slot_of other) s.generation) ≡ false =
          subst (λ (t : Slot). (t.is_live && eq_by_cmp octets_cmp other (id_at shard (slot_of other) s.generation)) ≡ false) own.0 not_live in record {
            not_live = ap (λ n. is_at shard other (slice_get (back (generation_before (generation_of id))) n)) same ∙ ap (is_at shard other) puts.here;
            not_next = ap (λ n. comes_at shard other (slice_get (back (generation_before (generation_of id))) n)) same
                ∙ ap (comes_at shard other) puts.here
                ∙ ap (λ g. eq_by_cmp octets_cmp other (id_at shard (slot_of other) g)) (before.2 ∙ of_id) ∙ differ;
          }
      | inr apart ↦ record {
        not_live = ap (is_at shard other) (puts.there (slot_of other) apart) ∙ (a.freed other e).not_live;
        not_next = ap (comes_at shard other) (puts.there (slot_of other) apart) ∙ (a.freed other e).not_next;
      }
    ]

    slots_back : AreSlots shard first (back (generation_before (generation_of id))) (free ++ slot_of id ∷ []) freed room of_free
    slots_back =
        slots_freed shard first slots free freed room of_free id s a stands live (generation_before (generation_of id)) before.1 before.0 freed still_freed

    live_back : live_of shard (back (generation_before (generation_of id))) ≡ set.remove (live_of shard slots) id
    live_back = live_spent shard first slots free freed room of_free id s a stands live (generation_before (generation_of id)) before.1 before.0

  -- what its slot has
  with_slot : {P : Type 0} → ((s : Slot) → slice_get slots (slot_of id) ≡ Some s → P) → P
  with_slot {P} gives = at (slice_get slots (slot_of id)) refl
    where
      at : (o : Option Slot) → slice_get slots (slot_of id) ≡ o → P
      at None e = absurd (true≢false (sym live ∙ ap (is_at shard id) e))
      at (Some s) e = gives s e

  pub begun_of-live : 0 < generation_of id
  begun_of-live = with_slot begun

  pub small_of-live : generation_of id < 4096
  small_of-live = with_slot small

  pub own_of-live : id ≡ id_at shard (slot_of id) (generation_of id)
  own_of-live = with_slot (λ s stands. (own s stands).1 ∙ ap (id_at shard (slot_of id)) (sym (of_id s stands)))

  pub there_of-live : slice_get slots (slot_of id) ≡ Some (record { generation = generation_of id; is_live = true })
  there_of-live = with_slot (λ s stands. stands ∙ ap Some ((own s stands).0 ∙ ap (λ g. record { generation = g; is_live = true }) (sym (of_id s stands))))

  pub generation_of-live : (t : Slot) → slice_get slots (slot_of id) ≡ Some t → t.generation ≡ generation_of id
  generation_of-live t stands = ap (generation_in 0) (sym stands ∙ there_of-live)

  pub room_for-free : length free < of_free
  room_for-free = with_slot (λ s stands. free_has_room shard first slots free freed room of_free id s a stands live)

  pub within_slots : slot_of id < length slots
  within_slots = within_at shard id slots (slot_of id) live

  -- each slot is live or free
  pub below_used : slot_of id < set.len (live_of shard slots) + length free
  below_used = omega (arith, a.counted, within_slots)

  pub AreSlots-untaken : AreSlots shard first (back (generation_before (generation_of id))) (free ++ slot_of id ∷ []) freed room of_free
  AreSlots-untaken = with_slot slots_back

  pub ids_of-untaken : ids_of shard first (back (generation_before (generation_of id))) (free ++ slot_of id ∷ []) freed
      ≡ record (ids_of shard first slots free freed) { live = set.remove (live_of shard slots) id; supply = untaken (supply_of first slots free) id }
  ids_of-untaken = λ i. record {
    shard = shard;
    live = with_slot live_back i;
    freed_last = freed;
    supply = record { first = first; generations = generations-set slots (slot_of id) (record { generation = generation_before (generation_of id); is_live = false }) i; free = free ++ slot_of id ∷ [] };
  }
