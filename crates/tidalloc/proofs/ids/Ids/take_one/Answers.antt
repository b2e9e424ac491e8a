use Rattle.std.proofs.Common.{◌≡◌, ◌<◌, ◌++◌, ◌∷◌, [], List, ℕ, Some, length, vec_len, refl, subst, ap, arith, ◌∙◌, sym}
use Rattle.std.proofs.Math.ListN.{length-append}
use Rattle.std.proofs.lemmas.Option.{slice_get_read}
use Rattle.std.specs.Option.{IsSome}
use Rattle.std.specs.List.{slice_get}
use Rattle.std.specs.Vec.{vec_capacity}
use Rattle.std.specs.FinSet as set
use Rattle.tidalloc.specs.LiveIds.{LiveIds}
use Rattle.tidalloc.specs.Slots.{AreSlots, ids_of, live_of}
use Rattle.tidalloc.proofs.StepLemmas.{few_slots, no_items, popped_within, slots_again, slots_first, taken_generation, takes_again, takes_first}
use Rattle.tidalloc.proofs.ids.Ids.take_one.Goals as goal

pub invariant_of-self : goal.invariant_of-self
invariant_of-self c =
    let i = c.self.inside in
    let empty : 0 < vec_len i.free → ⊥ = λ some. let there = subst IsSome c.in_default.is (c.pop.ensures.variant.1 some) in cc in
    let none : i.free.items ≡ [] = no_items i.free.items (omega (arith, empty, i.free.ok.0)) in
    let left : c.pop.new.self.items ≡ [] = no_items _ (omega (
      arith,
      ap length (sym c.in_default.ensures.items ∙ none),
      length-append c.pop.new.self.items [],
    )) in
    let a : AreSlots i.shard i.first i.slots.items [] i.freed_last (vec_capacity i.slots) (vec_capacity i.free) =
    subst (λ (f : List ℕ). AreSlots i.shard i.first i.slots.items f i.freed_last (vec_capacity i.slots) (vec_capacity i.free)) none c.self.invariant in
    let some : set.len (live_of i.shard i.slots.items) < 4096 = subst (λ (v : LiveIds). set.len v.live < 4096) (sym c.self.view_is) c.requires in
    rw (c.push_reserved.ensures.items, c.push_reserved.ensures.capacity, left, c.pop.ensures.capacity, c.next_generation-generation.ensures.value)
    (slots_first i.shard i.first i.slots.items i.freed_last (vec_capacity i.slots) (vec_capacity i.free) a some)

pub returns-in_default : goal.returns-in_default
returns-in_default c =
    let i = c.self.inside in
    let empty : 0 < vec_len i.free → ⊥ = λ some. let there = subst IsSome c.in_default.is (c.pop.ensures.variant.1 some) in cc in
    let none : i.free.items ≡ [] = no_items i.free.items (omega (arith, empty, i.free.ok.0)) in
    let left : c.pop.new.self.items ≡ [] = no_items _ (omega (
      arith,
      ap length (sym c.in_default.ensures.items ∙ none),
      length-append c.pop.new.self.items [],
    )) in
    let a : AreSlots i.shard i.first i.slots.items [] i.freed_last (vec_capacity i.slots) (vec_capacity i.free) =
    subst (λ (f : List ℕ). AreSlots i.shard i.first i.slots.items f i.freed_last (vec_capacity i.slots) (vec_capacity i.free)) none c.self.invariant in
    let some : set.len (live_of i.shard i.slots.items) < 4096 = subst (λ (v : LiveIds). set.len v.live < 4096) (sym c.self.view_is) c.requires in
    let old : ids_of i.shard i.first i.slots.items [] i.freed_last ≡ c.args.self.now =
    ap (λ (f : List ℕ). ids_of i.shard i.first i.slots.items f i.freed_last) (sym none) ∙ c.self.view_is in
    rw (← old, c.id_at.ensures, c.len-slot.ensures, i.slots.ok.0, c.push_reserved.ensures.items, left, c.next_generation-generation.ensures.value)
    (takes_first i.shard i.first i.slots.items i.freed_last (vec_capacity i.slots) (vec_capacity i.free) a some)

pub index-requires : goal.index-requires
index-requires c =
    let i = c.self.inside in
    let a : AreSlots i.shard i.first i.slots.items (c.pop.new.self.items ++ c.in-Some.slot ∷ []) i.freed_last (vec_capacity i.slots) (vec_capacity i.free) =
    subst (λ (f : List ℕ). AreSlots i.shard i.first i.slots.items f i.freed_last (vec_capacity i.slots) (vec_capacity i.free)) c.in-Some.ensures.items
    c.self.invariant in
    omega (arith, c.from-slot.ensures, popped_within i.shard i.first i.slots.items c.pop.new.self.items _ _ _ _ a, i.slots.ok.0)

pub index_mut-requires : goal.index_mut-requires
index_mut-requires c =
    let i = c.self.inside in
    let a : AreSlots i.shard i.first i.slots.items (c.pop.new.self.items ++ c.in-Some.slot ∷ []) i.freed_last (vec_capacity i.slots) (vec_capacity i.free) =
    subst (λ (f : List ℕ). AreSlots i.shard i.first i.slots.items f i.freed_last (vec_capacity i.slots) (vec_capacity i.free)) c.in-Some.ensures.items
    c.self.invariant in
    omega (arith, c.from-slot.ensures, popped_within i.shard i.first i.slots.items c.pop.new.self.items _ _ _ _ a, i.slots.ok.0)

pub push_reserved-requires : goal.push_reserved-requires
push_reserved-requires c =
    let i = c.self.inside in
    let empty : 0 < vec_len i.free → ⊥ = λ some. let there = subst IsSome c.in_default.is (c.pop.ensures.variant.1 some) in cc in
    let none : i.free.items ≡ [] = no_items i.free.items (omega (arith, empty, i.free.ok.0)) in
    let a : AreSlots i.shard i.first i.slots.items [] i.freed_last (vec_capacity i.slots) (vec_capacity i.free) =
    subst (λ (f : List ℕ). AreSlots i.shard i.first i.slots.items f i.freed_last (vec_capacity i.slots) (vec_capacity i.free)) none c.self.invariant in
    let some : set.len (live_of i.shard i.slots.items) < 4096 = subst (λ (v : LiveIds). set.len v.live < 4096) (sym c.self.view_is) c.requires in
    omega (arith, few_slots i.shard i.first i.slots.items i.freed_last _ _ a some, a.room_for_slots, i.slots.ok.0)

pub id_at-requires-clause-slot : goal.id_at-requires-clause-slot
id_at-requires-clause-slot c =
    let i = c.self.inside in
    let empty : 0 < vec_len i.free → ⊥ = λ some. let there = subst IsSome c.in_default.is (c.pop.ensures.variant.1 some) in cc in
    let none : i.free.items ≡ [] = no_items i.free.items (omega (arith, empty, i.free.ok.0)) in
    let a : AreSlots i.shard i.first i.slots.items [] i.freed_last (vec_capacity i.slots) (vec_capacity i.free) =
    subst (λ (f : List ℕ). AreSlots i.shard i.first i.slots.items f i.freed_last (vec_capacity i.slots) (vec_capacity i.free)) none c.self.invariant in
    let some : set.len (live_of i.shard i.slots.items) < 4096 = subst (λ (v : LiveIds). set.len v.live < 4096) (sym c.self.view_is) c.requires in
    omega (arith, few_slots i.shard i.first i.slots.items i.freed_last _ _ a some, c.len-slot.ensures, i.slots.ok.0)

pub next_generation-generation-requires-2 : goal.next_generation-generation-requires-2
next_generation-generation-requires-2 c =
    let i = c.self.inside in
    let a : AreSlots i.shard i.first i.slots.items (c.pop.new.self.items ++ c.in-Some.slot ∷ []) i.freed_last (vec_capacity i.slots) (vec_capacity i.free) =
    subst (λ (f : List ℕ). AreSlots i.shard i.first i.slots.items f i.freed_last (vec_capacity i.slots) (vec_capacity i.free)) c.in-Some.ensures.items
    c.self.invariant in
    let stands : slice_get i.slots.items c.in-Some.slot ≡ Some c.index.result.now =
    slice_get_read i.slots.items _ _ _ refl (popped_within i.shard i.first i.slots.items c.pop.new.self.items _ _ _ _ a)
    (rw c.from-slot.ensures at c.index.ensures) in
    taken_generation i.shard i.first i.slots.items c.pop.new.self.items c.in-Some.slot i.freed_last (vec_capacity i.slots) (vec_capacity i.free)
    c.index.result.now a stands

pub id_at-requires-2-clause-slot : goal.id_at-requires-2-clause-slot
id_at-requires-2-clause-slot c =
    let i = c.self.inside in
    let a : AreSlots i.shard i.first i.slots.items (c.pop.new.self.items ++ c.in-Some.slot ∷ []) i.freed_last (vec_capacity i.slots) (vec_capacity i.free) =
    subst (λ (f : List ℕ). AreSlots i.shard i.first i.slots.items f i.freed_last (vec_capacity i.slots) (vec_capacity i.free)) c.in-Some.ensures.items
    c.self.invariant in
    omega (arith, c.from-slot.ensures, popped_within i.shard i.first i.slots.items c.pop.new.self.items _ _ _ _ a, c.self.invariant.few)

pub invariant_of-self-2 : goal.invariant_of-self-2
invariant_of-self-2 c =
    let i = c.self.inside in
    let a : AreSlots i.shard i.first i.slots.items (c.pop.new.self.items ++ c.in-Some.slot ∷ []) i.freed_last (vec_capacity i.slots) (vec_capacity i.free) =
    subst (λ (f : List ℕ). AreSlots i.shard i.first i.slots.items f i.freed_last (vec_capacity i.slots) (vec_capacity i.free)) c.in-Some.ensures.items
    c.self.invariant in
    let stands : slice_get i.slots.items c.in-Some.slot ≡ Some c.index.result.now =
    slice_get_read i.slots.items _ _ _ refl (popped_within i.shard i.first i.slots.items c.pop.new.self.items _ _ _ _ a)
    (rw c.from-slot.ensures at c.index.ensures) in
    rw (c.from-slot.ensures, c.pop.ensures.capacity, c.next_generation-generation-2.ensures.value)
    (slots_again i.shard i.first i.slots.items c.pop.new.self.items c.in-Some.slot i.freed_last (vec_capacity i.slots) (vec_capacity i.free)
    c.index.result.now a stands)

pub returns : goal.returns
returns c =
    let i = c.self.inside in
    let a : AreSlots i.shard i.first i.slots.items (c.pop.new.self.items ++ c.in-Some.slot ∷ []) i.freed_last (vec_capacity i.slots) (vec_capacity i.free) =
    subst (λ (f : List ℕ). AreSlots i.shard i.first i.slots.items f i.freed_last (vec_capacity i.slots) (vec_capacity i.free)) c.in-Some.ensures.items
    c.self.invariant in
    let stands : slice_get i.slots.items c.in-Some.slot ≡ Some c.index.result.now =
    slice_get_read i.slots.items _ _ _ refl (popped_within i.shard i.first i.slots.items c.pop.new.self.items _ _ _ _ a)
    (rw c.from-slot.ensures at c.index.ensures) in
    let old : ids_of i.shard i.first i.slots.items (c.pop.new.self.items ++ c.in-Some.slot ∷ []) i.freed_last ≡ c.args.self.now =
    ap (λ (f : List ℕ). ids_of i.shard i.first i.slots.items f i.freed_last) (sym c.in-Some.ensures.items) ∙ c.self.view_is in
    rw (← old, c.id_at-2.ensures, c.from-slot.ensures, c.next_generation-generation-2.ensures.value)
    (takes_again i.shard i.first i.slots.items c.pop.new.self.items c.in-Some.slot i.freed_last (vec_capacity i.slots) (vec_capacity i.free)
    c.index.result.now a stands)
