use Rattle.std.proofs.Common.{◌≡◌, ◌<◌, Some, arith, refl, ap, sym, subst, ◌∙◌}
use Rattle.std.specs.List.{slice_get}
use Rattle.std.specs.Vec.{vec_capacity}
use Rattle.std.proofs.lemmas.Option.{slice_get_read}
use Rattle.tidalloc.specs.LiveIds.{LiveIds, is_live, slot_of, generation_of}
use Rattle.tidalloc.proofs.UseLemmas.{within_slots, room_for-free, begun_of-live, small_of-live, generation_of-live, AreSlots-untaken, ids_of-untaken}
use Rattle.tidalloc.proofs.ids.Ids.untake.Goals as goal

pub index-requires : goal.index-requires
index-requires c =
    let i = c.self.inside in
    let live = ap (λ (v : LiveIds). is_live v c.args.id) c.self.view_is ∙ c.requires in
    let within = within_slots i.shard i.first i.slots.items i.free.items i.freed_last (vec_capacity i.slots) (vec_capacity i.free) c.args.id c.self.invariant live in
    omega (arith, c.slot_of-place.ensures.value, within, i.slots.ok.0)

pub index_mut-requires : goal.index_mut-requires
index_mut-requires c =
    let i = c.self.inside in
    let live = ap (λ (v : LiveIds). is_live v c.args.id) c.self.view_is ∙ c.requires in
    let within = within_slots i.shard i.first i.slots.items i.free.items i.freed_last (vec_capacity i.slots) (vec_capacity i.free) c.args.id c.self.invariant live in
    omega (arith, c.slot_of-place.ensures.value, within, i.slots.ok.0)

pub generation_before-generation-requires-clause-begun : goal.generation_before-generation-requires-clause-begun
generation_before-generation-requires-clause-begun c =
    let i = c.self.inside in
    let live = ap (λ (v : LiveIds). is_live v c.args.id) c.self.view_is ∙ c.requires in
    let within = within_slots i.shard i.first i.slots.items i.free.items i.freed_last (vec_capacity i.slots) (vec_capacity i.free) c.args.id c.self.invariant live in
    let stands : slice_get i.slots.items (slot_of c.args.id) ≡ Some c.index.result.now =
    slice_get_read i.slots.items _ _ _ refl within (rw c.slot_of-place.ensures.value at c.index.ensures) in
    let same : c.index.result.now.generation ≡ generation_of c.args.id = generation_of-live i.shard i.first i.slots.items i.free.items i.freed_last (vec_capacity i.slots) (vec_capacity i.free) c.args.id c.self.invariant live c.index.result.now stands in
    subst (λ g. 0 < g) (sym same) (begun_of-live i.shard i.first i.slots.items i.free.items i.freed_last (vec_capacity i.slots) (vec_capacity i.free) c.args.id c.self.invariant live)

pub generation_before-generation-requires-clause-small : goal.generation_before-generation-requires-clause-small
generation_before-generation-requires-clause-small c =
    let i = c.self.inside in
    let live = ap (λ (v : LiveIds). is_live v c.args.id) c.self.view_is ∙ c.requires in
    let within = within_slots i.shard i.first i.slots.items i.free.items i.freed_last (vec_capacity i.slots) (vec_capacity i.free) c.args.id c.self.invariant live in
    let stands : slice_get i.slots.items (slot_of c.args.id) ≡ Some c.index.result.now =
    slice_get_read i.slots.items _ _ _ refl within (rw c.slot_of-place.ensures.value at c.index.ensures) in
    let same : c.index.result.now.generation ≡ generation_of c.args.id = generation_of-live i.shard i.first i.slots.items i.free.items i.freed_last (vec_capacity i.slots) (vec_capacity i.free) c.args.id c.self.invariant live c.index.result.now stands in
    subst (λ g. g < 4096) (sym same) (small_of-live i.shard i.first i.slots.items i.free.items i.freed_last (vec_capacity i.slots) (vec_capacity i.free) c.args.id c.self.invariant live)

pub push_reserved-requires : goal.push_reserved-requires
push_reserved-requires c =
    let i = c.self.inside in
    let live = ap (λ (v : LiveIds). is_live v c.args.id) c.self.view_is ∙ c.requires in
    let within = within_slots i.shard i.first i.slots.items i.free.items i.freed_last (vec_capacity i.slots) (vec_capacity i.free) c.args.id c.self.invariant live in
    omega (arith, room_for-free i.shard i.first i.slots.items i.free.items i.freed_last (vec_capacity i.slots) (vec_capacity i.free) c.args.id c.self.invariant live, i.free.ok.0)

pub invariant_of-self : goal.invariant_of-self
invariant_of-self c =
    let i = c.self.inside in
    let live = ap (λ (v : LiveIds). is_live v c.args.id) c.self.view_is ∙ c.requires in
    let within = within_slots i.shard i.first i.slots.items i.free.items i.freed_last (vec_capacity i.slots) (vec_capacity i.free) c.args.id c.self.invariant live in
    let stands : slice_get i.slots.items (slot_of c.args.id) ≡ Some c.index.result.now =
    slice_get_read i.slots.items _ _ _ refl within (rw c.slot_of-place.ensures.value at c.index.ensures) in
    let same : c.index.result.now.generation ≡ generation_of c.args.id = generation_of-live i.shard i.first i.slots.items i.free.items i.freed_last (vec_capacity i.slots) (vec_capacity i.free) c.args.id c.self.invariant live c.index.result.now stands in
    rw (c.push_reserved.ensures.items, c.push_reserved.ensures.capacity, c.slot_of-place.ensures.value, c.generation_before-generation.ensures, same)
    (AreSlots-untaken i.shard i.first i.slots.items i.free.items i.freed_last (vec_capacity i.slots) (vec_capacity i.free) c.args.id c.self.invariant live)

pub returns : goal.returns
returns c =
    let i = c.self.inside in
    let live = ap (λ (v : LiveIds). is_live v c.args.id) c.self.view_is ∙ c.requires in
    let within = within_slots i.shard i.first i.slots.items i.free.items i.freed_last (vec_capacity i.slots) (vec_capacity i.free) c.args.id c.self.invariant live in
    let stands : slice_get i.slots.items (slot_of c.args.id) ≡ Some c.index.result.now =
    slice_get_read i.slots.items _ _ _ refl within (rw c.slot_of-place.ensures.value at c.index.ensures) in
    let same : c.index.result.now.generation ≡ generation_of c.args.id = generation_of-live i.shard i.first i.slots.items i.free.items i.freed_last (vec_capacity i.slots) (vec_capacity i.free) c.args.id c.self.invariant live c.index.result.now stands in
    rw (← c.self.view_is, c.push_reserved.ensures.items, c.slot_of-place.ensures.value, c.generation_before-generation.ensures, same)
    (ids_of-untaken i.shard i.first i.slots.items i.free.items i.freed_last (vec_capacity i.slots) (vec_capacity i.free) c.args.id c.self.invariant live)
