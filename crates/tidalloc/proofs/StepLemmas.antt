-- The table of slots, after memory is reserved, an id is taken or one is freed.
use Rattle.std.proofs.Common.{◌≡◌, ℕ, ◌+◌, ◌-◌, ◌<◌, ◌≤◌, ◌==◌, ◌||◌, true, false, cond, ◌&&◌, List, [], ◌∷◌, ◌++◌, length, Option, Some, None, refl, sym, ap, ◌∙◌, subst, arith, inl, inr, get_or}
use Rattle.std.proofs.Math.ListN.{set, length-set, length-append, get_or-append}
use Rattle.std.proofs.Math.Seq.{get_or-append_seam}
use Rattle.std.proofs.lemmas.Bool.{cases_eq, eqb-true, eq-eqb}
use Rattle.std.proofs.lemmas.Option.{slice_get_past}
use Rattle.std.specs.List.{slice_get, list_any}
use Rattle.std.specs.Ordering.{eq_by_cmp}
use Rattle.std.specs.FinSet as set
use Rattle.hlr_types.specs.Orders.{octets_cmp}
use Rattle.hlr_types.proofs.OrderLemmas.{octets_total, same_octets, ne_octets}
use Rattle.tidalloc.proofs.IdLemmas.{generation_of-id_at, id_at-generation, next_generation-is}
use Rattle.tidalloc.proofs.SlotLemmas.{contains-live_of, Puts, live_of-take, live_of-give_back, none_at_free, within_free, within_at, puts-set, puts-push}
use Rattle.tidalloc.proofs.NextLemmas.{is_unused, may_take, none_at_unused, slot_next-push, id_next-small, unused_free, unused_past}
use Rattle.tidalloc.proofs.SupplyLemmas.{slot_next, id_next, next_is, after_using_again, after_using_first, after_giving_back}
use Rattle.tidalloc.specs.declared.slot.Slot.{Slot}
use Rattle.tidalloc.specs.LiveIds.{id_at, slot_of, generation_of, next_generation, next_of, next_use, Takes, MayBeTaken, after_taking, given_back}
use Rattle.tidalloc.specs.Slots.{live_of, ids_of, is_at, comes_at, is_free, generation_in, supply_of, WasFreed, AreSlots}

pub AreSlots-none : (shard room of_free : ℕ) → shard < 16 → 4096 ≤ room → 4096 ≤ of_free → AreSlots shard 0 [] [] None room of_free
AreSlots-none shard room of_free small enough both = record {
  in_range = small;
  first_small = omega arith;
  few = omega arith;
  room_for_slots = enough;
  room_for_free = both;
  counted = omega (arith, set.len-empty octets_cmp);
  generations = λ k. omega arith;
  begun = λ k. omega arith;
  free_ones = λ i h. absurd (omega arith);
  all_free = λ k e. cc;
  different = λ i j h k. absurd (omega arith);
  freed = λ id e. cc;
}

-- another generation before a first use
pub AreSlots-first : (shard first other : ℕ) (slots : List Slot) (free : List ℕ) (freed : Option (List ℕ)) (room of_free : ℕ) → other < 4096
    → AreSlots shard first slots free freed room of_free → AreSlots shard other slots free freed room of_free
AreSlots-first shard first other slots free freed room of_free small a = record {
  in_range = a.in_range;
  first_small = small;
  few = a.few;
  room_for_slots = a.room_for_slots;
  room_for_free = a.room_for_free;
  counted = a.counted;
  generations = λ k. each (slice_get slots k) (a.generations k);
  begun = a.begun;
  free_ones = a.free_ones;
  all_free = a.all_free;
  different = a.different;
  freed = a.freed;
}
  where
    each : (o : Option Slot) → generation_in first o < 4096 → generation_in other o < 4096
    each None h = small
    each (Some s) h = h

-- what holds of the old slots, and of the new one
module _ (P : Option Slot → Type 0) (old new : List Slot) (number : ℕ) (t : Slot) (puts : Puts old new number t) where
  pub kept_slots : P (Some t) → ((k : ℕ) → P (slice_get old k)) → (k : ℕ) → P (slice_get new k)
  kept_slots good each k =
      elim (cases_eq k number) [
        | inl same ↦ subst P (sym (ap (slice_get new) same ∙ puts.here)) good
        | inr apart ↦ subst P (sym (puts.there k apart)) (each k)
      ]

abbrev pub is_small : ℕ → Option Slot → Type 0
is_small first o = generation_in first o < 4096

abbrev pub is_begun : Option Slot → Type 0
is_begun o = 0 < generation_in 1 o

-- a number that is not the last of a list is before it
any-front : (k : ℕ) (xs : List ℕ) (y : ℕ) → (k ≡ y → ⊥) → list_any (λ n. k == n) (xs ++ y ∷ []) ≡ true → list_any (λ n. k == n) xs ≡ true
any-front k [] y other e =
    elim (k == y) as (λ b. (k == y) ≡ b → (b || false) ≡ true → false ≡ true) [
      | true ↦ λ same _. absurd (other (eqb-true k y same))
      | false ↦ λ _ e. e
    ] refl e
any-front k (x ∷ xs) y other e =
    elim (k == x) as (λ b. (b || list_any (λ n. k == n) (xs ++ y ∷ [])) ≡ true → (b || list_any (λ n. k == n) xs) ≡ true) [
      | true ↦ λ _. refl
      | false ↦ λ e. any-front k xs y other e
    ] e

-- a number of a list is one of a longer list
any-longer : (k : ℕ) (xs : List ℕ) (y : ℕ) → list_any (λ n. k == n) xs ≡ true → list_any (λ n. k == n) (xs ++ y ∷ []) ≡ true
any-longer k [] y e = cc
any-longer k (x ∷ xs) y e =
    elim (k == x) as (λ b. (b || list_any (λ n. k == n) xs) ≡ true → (b || list_any (λ n. k == n) (xs ++ y ∷ [])) ≡ true) [
      | true ↦ λ _. refl
      | false ↦ λ e. any-longer k xs y e
    ] e

any-last : (k : ℕ) (xs : List ℕ) → list_any (λ n. k == n) (xs ++ k ∷ []) ≡ true
any-last k [] = ap (λ b. b || false) (eq-eqb k k refl)
any-last k (x ∷ xs) =
    elim (k == x) as (λ b. (b || list_any (λ n. k == n) (xs ++ k ∷ [])) ≡ true) [ true ↦ refl | false ↦ any-last k xs ]

-- a slot that is free now was so before, or is the one that is put
module _ (old new : List Slot) (number : ℕ) (t : Slot) (puts : Puts old new number t) where
  pub free_before : (k : ℕ) → is_free (Some t) ≡ false → is_free (slice_get new k) ≡ true → (k ≡ number → ⊥) × (is_free (slice_get old k) ≡ true)
  free_before k live free = elim (cases_eq k number) [
    | inl same ↦
        let here : is_free (slice_get new k) ≡ is_free (Some t) = ap is_free (ap (slice_get new) same ∙ puts.here) in
        cc
    | inr apart ↦ (apart, ap is_free (sym (puts.there k apart)) ∙ free)
  ]

-- ---- an id is taken

-- the id freed last stays so when another id is taken
pub kept_freed : (shard : ℕ) (old new : List Slot) (number g : ℕ) (id : List ℕ) → Puts old new number (record { generation = g; is_live = true })
    → (id ≡ id_at shard number g → ⊥) → WasFreed shard old id → WasFreed shard new id
kept_freed shard old new number g id puts another w =
    elim (cases_eq (slot_of id) number) [
      | inl same ↦ record {
        not_live = ap (λ n. is_at shard id (slice_get new n)) same ∙ ap (is_at shard id) puts.here
            ∙ ap (λ n. eq_by_cmp octets_cmp id (id_at shard n g)) same ∙ ne_octets id (id_at shard number g) another;
        not_next = ap (λ n. comes_at shard id (slice_get new n)) same ∙ ap (comes_at shard id) puts.here;
      }
      | inr apart ↦ record {
        not_live = ap (is_at shard id) (puts.there (slot_of id) apart) ∙ w.not_live;
        not_next = ap (comes_at shard id) (puts.there (slot_of id) apart) ∙ w.not_next;
      }
    ]

last_of : (free : List ℕ) (number : ℕ) → get_or (free ++ number ∷ []) (length free) 0 ≡ number
last_of free number = get_or-append_seam free number [] 0

-- the number that was popped is that of a free slot
popped_free : (shard first : ℕ) (slots : List Slot) (free : List ℕ) (number : ℕ) (freed : Option (List ℕ)) (room of_free : ℕ)
    → AreSlots shard first slots (free ++ number ∷ []) freed room of_free → is_free (slice_get slots number) ≡ true
popped_free shard first slots free number freed room of_free a =
    ap (λ n. is_free (slice_get slots n)) (sym (last_of free number)) ∙ a.free_ones (length free) (omega (arith, length-append free (number ∷ [])))

pub popped_within : (shard first : ℕ) (slots : List Slot) (free : List ℕ) (number : ℕ) (freed : Option (List ℕ)) (room of_free : ℕ)
    → AreSlots shard first slots (free ++ number ∷ []) freed room of_free → number < length slots
popped_within shard first slots free number freed room of_free a =
    within_free slots number (popped_free shard first slots free number freed room of_free a)

-- an unused slot is now live, at its next generation
module _ (shard first : ℕ) (slots new : List Slot) (free left : List ℕ) (number g : ℕ) (freed : Option (List ℕ)) (room of_free : ℕ)
    (a : AreSlots shard first slots free freed room of_free) (is_next : slot_next slots free ≡ number) (small : number < 4096)
    (unused : is_unused (slice_get slots number) ≡ true) (coming : generation_in first (slice_get slots number) ≡ g)
    (puts : Puts slots new number (record { generation = next_generation g; is_live = true }))
    (supply : supply_of first new left ≡ after_taking (supply_of first slots free)) where
  may_taken : MayBeTaken (ids_of shard first slots free freed) (id_at shard number (next_generation g))
  may_taken =
      subst (λ n. MayBeTaken (ids_of shard first slots free freed) (id_at shard number (next_generation n))) coming
      (may_take shard first slots free freed room of_free a number small unused)

  live_taken : live_of shard new ≡ set.insert (live_of shard slots) (id_at shard number (next_generation g))
  live_taken = live_of-take shard slots new number (next_generation g) puts (λ q. none_at_unused shard q (slice_get slots number) unused)

  one_more : set.len (live_of shard new) ≡ set.len (live_of shard slots) + 1
  one_more =
      ap set.len live_taken
      ∙ set.len-insert octets_total (live_of shard slots) (id_at shard number (next_generation g))
      ∙ ap (λ b. cond b (set.len (live_of shard slots)) (set.len (live_of shard slots) + 1)) may_taken.not_live

  takes_it : Takes (ids_of shard first slots free freed) (id_at shard number (next_generation g)) (ids_of shard first new left freed)
  takes_it = record {
    was_next = next_is shard first slots free ∙ ap (id_next shard first slots) is_next ∙ id_next-small shard first slots number small
        ∙ ap (λ n. Some (id_at shard number (next_generation n))) coming;
    may = may_taken;
    after = λ i. record { shard = shard; live = live_taken i; freed_last = freed; supply = supply i };
  }

  slots_taken : length left + set.len (live_of shard new) ≡ length new
      → ((i : ℕ) → i < length left → (get_or left i 0 ≡ number → ⊥) × (is_free (slice_get slots (get_or left i 0)) ≡ true))
      → ((k : ℕ) → (k ≡ number → ⊥) → list_any (λ n. k == n) free ≡ true → list_any (λ n. k == n) left ≡ true)
      → ((i j : ℕ) → i < j → j < length left → get_or left i 0 ≡ get_or left j 0 → ⊥)
      → AreSlots shard first new left freed room of_free
  slots_taken count free_ones left_free different = record {
    in_range = a.in_range;
    first_small = a.first_small;
    few = puts.still_few;
    room_for_slots = a.room_for_slots;
    room_for_free = a.room_for_free;
    counted = count;
    generations = kept_slots (is_small first) slots new number _ puts
        (next_generation-is g (subst (λ n. n < 4096) coming (a.generations number))).1 a.generations;
    begun = kept_slots is_begun slots new number _ puts
        (next_generation-is g (subst (λ n. n < 4096) coming (a.generations number))).0 a.begun;
    free_ones = λ i h. ap is_free (puts.there (get_or left i 0) (free_ones i h).0) ∙ (free_ones i h).1;
    all_free = λ k e. let was = free_before slots new number _ puts k refl e in left_free k was.0 (a.all_free k was.1);
    different = different;
    freed = λ id e. kept_freed shard slots new number (next_generation g) id puts (λ same. may_taken.not_freed_last (e ∙ ap Some same))
        (a.freed id e);
  }

-- the slot on top of the free ones
module _ (shard first : ℕ) (slots : List Slot) (free : List ℕ) (number : ℕ) (freed : Option (List ℕ)) (room of_free : ℕ) (s : Slot)
    (a : AreSlots shard first slots (free ++ number ∷ []) freed room of_free) (stands : slice_get slots number ≡ Some s) where
  free_there : is_free (slice_get slots number) ≡ true
  free_there = popped_free shard first slots free number freed room of_free a

  pub taken_generation : s.generation < 4096
  taken_generation = subst (λ o. generation_in first o < 4096) stands (a.generations number)

  puts_again : Puts slots (set slots number (record { generation = next_generation s.generation; is_live = true })) number
      (record { generation = next_generation s.generation; is_live = true })
  puts_again = puts-set slots number _ a.few (within_free slots number free_there)

  supply_again : supply_of first (set slots number (record { generation = next_generation s.generation; is_live = true })) free
      ≡ after_taking (supply_of first slots (free ++ number ∷ []))
  supply_again = after_using_again first slots free number s (slot_next-push slots free number) stands (within_free slots number free_there)

  pub takes_again : Takes (ids_of shard first slots (free ++ number ∷ []) freed) (id_at shard number (next_generation s.generation))
      (ids_of shard first (set slots number (record { generation = next_generation s.generation; is_live = true })) free freed)
  takes_again =
      takes_it shard first slots _ (free ++ number ∷ []) free number s.generation freed room of_free a (slot_next-push slots free number) puts_again.small
      (unused_free _ free_there) (ap (generation_in first) stands) puts_again supply_again

  pub slots_again : AreSlots shard first (set slots number (record { generation = next_generation s.generation; is_live = true })) free freed room of_free
  slots_again =
      slots_taken shard first slots _ (free ++ number ∷ []) free number s.generation freed room of_free a (slot_next-push slots free number)
      puts_again.small (unused_free _ free_there) (ap (generation_in first) stands) puts_again supply_again
      (omega (
        arith,
        a.counted,
        one_more shard first slots _ (free ++ number ∷ []) free number s.generation freed room of_free a (slot_next-push slots free number)
            puts_again.small (unused_free _ free_there) (ap (generation_in first) stands) puts_again supply_again,
        length-append free (number ∷ []),
        length-set slots number
            (record { generation = next_generation s.generation; is_live = true }),
      ))
      (λ i h.
      let longer : i < length (free ++ number ∷ []) = omega (arith, length-append free (number ∷ [])) in
      let at : get_or (free ++ number ∷ []) i 0 ≡ get_or free i 0 = get_or-append free (number ∷ []) 0 i h in
      let last : length free < length (free ++ number ∷ []) = omega (arith, length-append free (number ∷ [])) in (
        λ e. a.different i (length free) h last (at ∙ e ∙ sym (last_of free number)),
        ap (λ n. is_free (slice_get slots n)) (sym at) ∙ a.free_ones i longer,
      ))
      (λ k other there. any-front k free number other there)
      (λ i j h k.
      let longer : j < length (free ++ number ∷ []) = omega (arith, length-append free (number ∷ [])) in
      λ e. a.different i j h longer (get_or-append free (number ∷ []) 0 i (omega arith) ∙ e ∙ sym (get_or-append free (number ∷ []) 0 j k)))

-- a slot that was never used
module _ (shard first : ℕ) (slots : List Slot) (freed : Option (List ℕ)) (room of_free : ℕ)
    (a : AreSlots shard first slots [] freed room of_free) (some : set.len (live_of shard slots) < 4096) where
  pub few_slots : length slots < 4096
  few_slots = omega (arith, a.counted, some)

  puts_first : Puts slots (slots ++ record { generation = next_generation first; is_live = true } ∷ []) (length slots)
      (record { generation = next_generation first; is_live = true })
  puts_first = puts-push slots _ few_slots

  never_used : generation_in first (slice_get slots (length slots)) ≡ first
  never_used = ap (generation_in first) (slice_get_past slots (length slots) (omega arith))

  pub takes_first : Takes (ids_of shard first slots [] freed) (id_at shard (length slots) (next_generation first))
      (ids_of shard first (slots ++ record { generation = next_generation first; is_live = true } ∷ []) [] freed)
  takes_first =
      takes_it shard first slots _ [] [] (length slots) first freed room of_free a refl few_slots (unused_past slots) never_used puts_first
      (after_using_first first slots)

  pub slots_first : AreSlots shard first (slots ++ record { generation = next_generation first; is_live = true } ∷ []) [] freed room of_free
  slots_first =
      slots_taken shard first slots _ [] [] (length slots) first freed room of_free a refl few_slots (unused_past slots) never_used puts_first
      (after_using_first first slots)
      (omega (
        arith,
        a.counted,
        one_more shard first slots _ [] [] (length slots) first freed room of_free a refl few_slots (unused_past slots) never_used puts_first
            (after_using_first first slots),
        length-append slots (record { generation = next_generation first; is_live = true } ∷ []),
      ))
      (λ i h. absurd (omega arith)) (λ k other there. there) (λ i j h k. absurd (omega arith))

-- ---- an id is given back

-- the slot of a live id, whose id it is
live_slot : (shard : ℕ) (id : List ℕ) (s : Slot) → is_at shard id (Some s) ≡ true
    → (s ≡ record { generation = s.generation; is_live = true }) × (id ≡ id_at shard (slot_of id) s.generation)
live_slot shard id s at =
    elim s.is_live as (λ b. (b && eq_by_cmp octets_cmp id (id_at shard (slot_of id) s.generation)) ≡ true → (record { generation = s.generation; is_live = b }
    ≡ record { generation = s.generation; is_live = true }) × (id ≡ id_at shard (slot_of id) s.generation)) [
      | true ↦ λ e. (refl, same_octets id _ e)
      | false ↦ λ e. cc
    ] at

-- no live id, no member
not_empty : (shard : ℕ) (slots : List Slot) (q : List ℕ) → set.contains (live_of shard slots) q ≡ true → set.len (live_of shard slots) ≡ 0 → ⊥
not_empty shard slots q there none =
    let e : false ≡ true = sym (set.contains-empty octets_cmp q) ∙ ap (λ s. set.contains s q) (sym (set.empty_of_len (live_of shard slots) none)) ∙ there in
    cc

-- the slot of a live id
module _ (shard first : ℕ) (slots : List Slot) (free : List ℕ) (freed : Option (List ℕ)) (room of_free : ℕ) (id : List ℕ) (s : Slot)
    (a : AreSlots shard first slots free freed room of_free) (stands : slice_get slots (slot_of id) ≡ Some s)
    (live : is_at shard id (slice_get slots (slot_of id)) ≡ true) where
  pub is_own : (s ≡ record { generation = s.generation; is_live = true }) × (id ≡ id_at shard (slot_of id) s.generation)
  is_own = live_slot shard id s (ap (is_at shard id) (sym stands) ∙ live)

  contained : set.contains (live_of shard slots) id ≡ true
  contained = contains-live_of shard id slots a.few ∙ live

  pub free_has_room : length free < of_free
  free_has_room =
      let some : set.len (live_of shard slots) ≡ 0 → ⊥ = not_empty shard slots id contained in
      omega (arith, a.counted, a.few, a.room_for_free)

  not_listed : (i : ℕ) → i < length free → get_or free i 0 ≡ slot_of id → ⊥
  not_listed i h e =
      let none : is_at shard id (slice_get slots (slot_of id)) ≡ false = none_at_free shard id _
      (ap (λ n. is_free (slice_get slots n)) (sym e) ∙ a.free_ones i h) in
      cc

  -- it is free now, at this generation
  module _ (g : ℕ) (small : g < 4096) (begun : 0 < g) where
    abbrev spent : List Slot
    spent = set slots (slot_of id) (record { generation = g; is_live = false })

    pub puts_spent : Puts slots spent (slot_of id) (record { generation = g; is_live = false })
    puts_spent = puts-set slots (slot_of id) _ a.few (within_at shard id slots (slot_of id) live)

    pub live_spent : live_of shard spent ≡ set.remove (live_of shard slots) id
    live_spent =
        live_of-give_back shard slots spent (slot_of id) s.generation g puts_spent (stands ∙ ap Some is_own.0)
        ∙ ap (set.remove (live_of shard slots)) (sym is_own.1)

    one_less : set.len (live_of shard slots) ≡ set.len (live_of shard spent) + 1
    one_less =
        let some : set.len (live_of shard slots) ≡ 0 → ⊥ = not_empty shard slots id contained in
        let e : set.len (live_of shard spent) ≡ set.len (live_of shard slots) - 1 =
        ap set.len live_spent ∙ set.len-remove octets_total (live_of shard slots) id
        ∙ ap (λ b. cond b (set.len (live_of shard slots) - 1) (set.len (live_of shard slots))) contained in
        omega arith

    spent_free : (k : ℕ) → is_free (slice_get spent k) ≡ true → list_any (λ n. k == n) (free ++ slot_of id ∷ []) ≡ true
    spent_free k e = elim (cases_eq k (slot_of id)) [
      | inl same ↦ subst (λ n. list_any (λ m. n == m) (free ++ slot_of id ∷ []) ≡ true) (sym same) (any-last (slot_of id) free)
      | inr apart ↦ any-longer k free (slot_of id) (a.all_free k (ap is_free (sym (puts_spent.there k apart)) ∙ e))
    ]

    pub slots_freed : (last : Option (List ℕ)) → ((other : List ℕ) → last ≡ Some other → WasFreed shard spent other)
        → AreSlots shard first spent (free ++ slot_of id ∷ []) last room of_free
    slots_freed last was = record {
      in_range = a.in_range;
      first_small = a.first_small;
      few = puts_spent.still_few;
      room_for_slots = a.room_for_slots;
      room_for_free = a.room_for_free;
      counted = omega (
        arith,
        a.counted,
        one_less,
        length-append free (slot_of id ∷ []),
        length-set slots (slot_of id)
            (record { generation = g; is_live = false }),
      );
      generations = kept_slots (is_small first) slots spent (slot_of id) _ puts_spent small a.generations;
      begun = kept_slots is_begun slots spent (slot_of id) _ puts_spent begun a.begun;
      free_ones = λ i h. elim (cases_eq i (length free)) [
        | inl e ↦ ap (λ j. is_free (slice_get spent (get_or (free ++ slot_of id ∷ []) j 0))) e
            ∙ ap (λ n. is_free (slice_get spent n)) (last_of free (slot_of id))
            ∙ ap is_free puts_spent.here
        | inr ne ↦
            let before : i < length free = omega (arith, length-append free (slot_of id ∷ [])) in
            ap (λ n. is_free (slice_get spent n)) (get_or-append free (slot_of id ∷ []) 0 i before)
            ∙ ap is_free (puts_spent.there (get_or free i 0) (not_listed i before)) ∙ a.free_ones i before
      ];
      all_free = spent_free;
      different = λ i j h k. λ e.
          let before : i < length free = omega (arith, length-append free (slot_of id ∷ [])) in
          elim (cases_eq j (length free)) [
            | inl last ↦ not_listed i before (sym (get_or-append free (slot_of id ∷ []) 0 i before) ∙ e ∙ ap (λ n. get_or (free ++ slot_of id ∷ []) n 0) last
                ∙ last_of free (slot_of id))
            | inr ne ↦
                let inner : j < length free = omega (arith, length-append free (slot_of id ∷ [])) in
                a.different i j h inner (sym (get_or-append free (slot_of id ∷ []) 0 i before) ∙ e ∙ get_or-append free (slot_of id ∷ []) 0 j inner)
          ];
      freed = was;
    }

module _ (shard first : ℕ) (slots : List Slot) (free : List ℕ) (freed : Option (List ℕ)) (room of_free : ℕ) (id : List ℕ) (s : Slot)
    (a : AreSlots shard first slots free freed room of_free) (stands : slice_get slots (slot_of id) ≡ Some s)
    (live : is_at shard id (slice_get slots (slot_of id)) ≡ true) where
  own_id : id ≡ id_at shard (slot_of id) s.generation
  own_id = (is_own shard first slots free freed room of_free id s a stands live).1

  small_generation : s.generation < 4096
  small_generation = subst (is_small first) stands (a.generations (slot_of id))

  begun_generation : 0 < s.generation
  begun_generation = subst is_begun stands (a.begun (slot_of id))

  puts_freed : Puts slots (set slots (slot_of id) (record { generation = s.generation; is_live = false })) (slot_of id)
      (record { generation = s.generation; is_live = false })
  puts_freed = puts_spent shard first slots free freed room of_free id s a stands live s.generation small_generation begun_generation

  -- it has the generation of the id, and so another one comes next
  not_again : eq_by_cmp octets_cmp id (id_at shard (slot_of id) (next_generation s.generation)) ≡ false
  not_again = ne_octets id _ (λ same. (next_generation-is s.generation small_generation).2
      (id_at-generation shard (slot_of id) (next_generation s.generation) s.generation (sym same ∙ own_id)))

  pub AreSlots-give_back : AreSlots shard first (set slots (slot_of id) (record { generation = s.generation; is_live = false })) (free ++ slot_of id ∷ [])
      (Some id) room of_free
  AreSlots-give_back =
      slots_freed shard first slots free freed room of_free id s a stands live s.generation small_generation begun_generation (Some id) (λ other e.
      let same : id ≡ other = cc in
      subst (λ (t : List ℕ). WasFreed shard (set slots (slot_of id) (record { generation = s.generation; is_live = false })) t) same (record {
        not_live = ap (is_at shard id) puts_freed.here;
        not_next = ap (comes_at shard id) puts_freed.here ∙ not_again;
      }))

  -- the id's slot at its next generation
  pub next_use-own : next_use id ≡ id_at shard (slot_of id) (next_generation s.generation)
  next_use-own =
      let first : get_or id 0 0 ≡ shard = ap (λ l. get_or l 0 0) own_id in
      let generation : generation_of id ≡ s.generation = ap generation_of own_id ∙ generation_of-id_at shard (slot_of id) s.generation puts_freed.small in
      ap (λ n. id_at n (slot_of id) (next_generation (generation_of id))) first ∙ ap (λ g. id_at shard (slot_of id) (next_generation g)) generation

  pub ids_of-give_back : ids_of shard first (set slots (slot_of id) (record { generation = s.generation; is_live = false })) (free ++ slot_of id ∷ []) (Some id)
      ≡ given_back (ids_of shard first slots free freed) id
  ids_of-give_back = λ i. record {
    shard = shard;
    live = live_spent shard first slots free freed room of_free id s a stands live s.generation small_generation begun_generation i;
    freed_last = Some id;
    supply = after_giving_back first slots free id s stands i;
  }

  -- the id that is next then
  pub next-give_back : next_of (given_back (ids_of shard first slots free freed) id) ≡ Some (next_use id)
  next-give_back =
      let new = set slots (slot_of id) (record { generation = s.generation; is_live = false }) in
      ap next_of (sym ids_of-give_back)
      ∙ next_is shard first new (free ++ slot_of id ∷ [])
      ∙ ap (id_next shard first new) (slot_next-push new free (slot_of id))
      ∙ id_next-small shard first new (slot_of id) puts_freed.small
      ∙ ap (λ o. Some (id_at shard (slot_of id) (next_generation (generation_in first o)))) puts_freed.here
      ∙ ap Some (sym next_use-own)

  -- after it is freed, its slot's next id may be taken
  pub next_use-may : MayBeTaken (given_back (ids_of shard first slots free freed) id) (next_use id)
  next_use-may =
      let new = set slots (slot_of id) (record { generation = s.generation; is_live = false }) in
      let unused = unused_free (slice_get new (slot_of id)) (ap is_free puts_freed.here) in
      let may = may_take shard first new (free ++ slot_of id ∷ []) (Some id) room of_free AreSlots-give_back (slot_of id) puts_freed.small unused in
      let at : id_at shard (slot_of id) (next_generation (generation_in first (slice_get new (slot_of id)))) ≡ next_use id =
      ap (λ o. id_at shard (slot_of id) (next_generation (generation_in first o))) puts_freed.here ∙ sym next_use-own in
      subst (λ ids. MayBeTaken ids (next_use id)) ids_of-give_back (subst (MayBeTaken (ids_of shard first new (free ++ slot_of id ∷ []) (Some id))) at may)

true≢false : true ≡ false → ⊥
true≢false e = cc

-- what is next after a live id is freed
pub next_after : (shard first : ℕ) (slots : List Slot) (free : List ℕ) (freed : Option (List ℕ)) (room of_free : ℕ) (id : List ℕ)
    → AreSlots shard first slots free freed room of_free → set.contains (live_of shard slots) id ≡ true
    → (next_of (given_back (ids_of shard first slots free freed) id) ≡ Some (next_use id))
    × MayBeTaken (given_back (ids_of shard first slots free freed) id) (next_use id)
next_after shard first slots free freed room of_free id a live = at (slice_get slots (slot_of id)) refl
  where
    at : (o : Option Slot) → slice_get slots (slot_of id) ≡ o
        → (next_of (given_back (ids_of shard first slots free freed) id) ≡ Some (next_use id))
        × MayBeTaken (given_back (ids_of shard first slots free freed) id) (next_use id)
    at None e =
        let none : is_at shard id (slice_get slots (slot_of id)) ≡ false = ap (is_at shard id) e in
        let there : is_at shard id (slice_get slots (slot_of id)) ≡ true = sym (contains-live_of shard id slots a.few) ∙ live in
        absurd (true≢false (sym there ∙ none))
    at (Some s) e =
        let there = sym (contains-live_of shard id slots a.few) ∙ live in (
          next-give_back shard first slots free freed room of_free id s a e there,
          next_use-may shard first slots free freed room of_free id s a e there,
        )

pub no_items : (xs : List ℕ) → length xs ≡ 0 → xs ≡ []
no_items [] e = refl
no_items (x ∷ xs) e = absurd (omega arith)

-- ---- looking at ids

-- two live ids of one slot are the same
pub own_slots : (shard : ℕ) (slots : List Slot) (few : length slots ≤ 4096) (p q : List ℕ) → set.contains (live_of shard slots) p ≡ true
    → set.contains (live_of shard slots) q ≡ true → slot_of p ≡ slot_of q → p ≡ q
own_slots shard slots few p q live_p live_q same =
    one (slice_get slots (slot_of p)) (sym (contains-live_of shard p slots few) ∙ live_p)
    (ap (λ n. is_at shard q (slice_get slots n)) same ∙ sym (contains-live_of shard q slots few) ∙ live_q)
  where
    one : (o : Option Slot) → is_at shard p o ≡ true → is_at shard q o ≡ true → p ≡ q
    one None e f = cc
    one (Some s) e f = (live_slot shard p s e).1 ∙ ap (λ n. id_at shard n s.generation) same ∙ sym (live_slot shard q s f).1

-- whether an id is live, by the content of its slot
pub live_here : (shard : ℕ) (slots : List Slot) (id : List ℕ) (n : ℕ) (s : Slot) → length slots ≤ 4096 → n ≡ slot_of id → slice_get slots n ≡ Some s
    → set.contains (live_of shard slots) id ≡ (s.is_live && eq_by_cmp octets_cmp id (id_at shard n s.generation))
live_here shard slots id n s few here stands =
    contains-live_of shard id slots few ∙ ap (λ m. is_at shard id (slice_get slots m)) (sym here) ∙ ap (is_at shard id) stands
    ∙ ap (λ m. s.is_live && eq_by_cmp octets_cmp id (id_at shard m s.generation)) (sym here)

-- the slot of a live id has that id
pub slot_of_live : (shard : ℕ) (slots : List Slot) (id : List ℕ) → length slots ≤ 4096 → set.contains (live_of shard slots) id ≡ true
    → is_at shard id (slice_get slots (slot_of id)) ≡ true
slot_of_live shard slots id few live = sym (contains-live_of shard id slots few) ∙ live
