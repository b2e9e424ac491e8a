use Rattle.std.proofs.Common.{◌≡◌, Some, arith, refl, ap, ◌∙◌}
use Rattle.std.specs.List.{slice_get}
use Rattle.std.specs.Vec.{vec_capacity}
use Rattle.std.proofs.lemmas.Option.{slice_get_read}
use Rattle.tidalloc.specs.LiveIds.{LiveIds, is_live, slot_of}
use Rattle.tidalloc.proofs.SlotLemmas.{within_at}
use Rattle.tidalloc.proofs.StepLemmas.{slot_of_live, free_has_room, AreSlots-give_back, ids_of-give_back}
use Rattle.tidalloc.proofs.ids.Ids.give_back.Goals as goal

pub index-requires : goal.index-requires
index-requires c =
    let i = c.self.inside in
    let live = slot_of_live i.shard i.slots.items c.args.id c.self.invariant.few (ap (λ (v : LiveIds). is_live v c.args.id) c.self.view_is ∙ c.requires) in
    omega (arith, c.slot_of-slot.ensures.value, within_at i.shard c.args.id i.slots.items (slot_of c.args.id) live, i.slots.ok.0)

pub index_mut-requires : goal.index_mut-requires
index_mut-requires c =
    let i = c.self.inside in
    let live = slot_of_live i.shard i.slots.items c.args.id c.self.invariant.few (ap (λ (v : LiveIds). is_live v c.args.id) c.self.view_is ∙ c.requires) in
    omega (arith, c.slot_of-slot.ensures.value, within_at i.shard c.args.id i.slots.items (slot_of c.args.id) live, i.slots.ok.0)

pub push_reserved-requires : goal.push_reserved-requires
push_reserved-requires c =
    let i = c.self.inside in
    let live = slot_of_live i.shard i.slots.items c.args.id c.self.invariant.few (ap (λ (v : LiveIds). is_live v c.args.id) c.self.view_is ∙ c.requires) in
    let stands : slice_get i.slots.items (slot_of c.args.id) ≡ Some c.index.result.now =
    slice_get_read i.slots.items _ _ _ refl (within_at i.shard c.args.id i.slots.items _ live) (rw c.slot_of-slot.ensures.value at c.index.ensures) in
    omega (
      arith,
      free_has_room i.shard i.first i.slots.items i.free.items i.freed_last
          (vec_capacity i.slots) (vec_capacity i.free) c.args.id c.index.result.now c.self.invariant stands live,
      i.free.ok.0,
    )

pub invariant_of-self : goal.invariant_of-self
invariant_of-self c =
    let i = c.self.inside in
    let live = slot_of_live i.shard i.slots.items c.args.id c.self.invariant.few (ap (λ (v : LiveIds). is_live v c.args.id) c.self.view_is ∙ c.requires) in
    let stands : slice_get i.slots.items (slot_of c.args.id) ≡ Some c.index.result.now =
    slice_get_read i.slots.items _ _ _ refl (within_at i.shard c.args.id i.slots.items _ live) (rw c.slot_of-slot.ensures.value at c.index.ensures) in
    rw (c.push_reserved.ensures.items, c.push_reserved.ensures.capacity, c.slot_of-slot.ensures.value)
    (AreSlots-give_back i.shard i.first i.slots.items i.free.items i.freed_last _ _ c.args.id c.index.result.now c.self.invariant stands live)

pub returns : goal.returns
returns c =
    let i = c.self.inside in
    let live = slot_of_live i.shard i.slots.items c.args.id c.self.invariant.few (ap (λ (v : LiveIds). is_live v c.args.id) c.self.view_is ∙ c.requires) in
    let stands : slice_get i.slots.items (slot_of c.args.id) ≡ Some c.index.result.now =
    slice_get_read i.slots.items _ _ _ refl (within_at i.shard c.args.id i.slots.items _ live) (rw c.slot_of-slot.ensures.value at c.index.ensures) in
    rw (← c.self.view_is, c.push_reserved.ensures.items, c.slot_of-slot.ensures.value)
    (ids_of-give_back i.shard i.first i.slots.items i.free.items i.freed_last (vec_capacity i.slots) (vec_capacity i.free) c.args.id c.index.result.now c.self.invariant stands live)
