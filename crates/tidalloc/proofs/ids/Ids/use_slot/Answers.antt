use Rattle.std.proofs.Common.{◌<◌, ap, sym, subst, ◌∙◌}
use Rattle.std.specs.Vec.{vec_capacity}
use Rattle.tidalloc.specs.LiveIds.{LiveIds}
use Rattle.tidalloc.specs.Resumed.{IsNextUnused, with_used}
use Rattle.tidalloc.proofs.UseLemmas.{of_next_unused, slots_used, ids_of-used}
use Rattle.tidalloc.proofs.ids.Ids.use_slot.Goals as goal

pub invariant_of-self : goal.invariant_of-self
invariant_of-self c =
    let i = c.self.inside in
    let is = subst (λ (v : LiveIds). IsNextUnused v c.args.id) (sym c.self.view_is) (c.is_next_unused.ensures.0 c.if-not-is_next_unused.false) in
    let at = of_next_unused i.shard i.first i.slots.items i.free.items i.freed_last c.args.id is in
    rw (c.push_reserved.ensures.items, c.push_reserved.ensures.capacity, c.generation_of.ensures.value)
    (slots_used i.shard i.first i.slots.items i.free.items i.freed_last (vec_capacity i.slots) (vec_capacity i.free) _
    c.self.invariant at.0 is.begun (subst (λ g. g < 4096) c.generation_of.ensures.value c.generation_of.ensures.small))

pub returns-clause-after : goal.returns-clause-after
returns-clause-after c = λ _.
    let i = c.self.inside in
    let is = subst (λ (v : LiveIds). IsNextUnused v c.args.id) (sym c.self.view_is) (c.is_next_unused.ensures.0 c.if-not-is_next_unused.false) in
    let at = of_next_unused i.shard i.first i.slots.items i.free.items i.freed_last c.args.id is in
    rw (c.push_reserved.ensures.items, c.generation_of.ensures.value)
    (ids_of-used i.shard i.first i.slots.items i.free.items i.freed_last (vec_capacity i.slots) (vec_capacity i.free) _
    c.self.invariant at.0 is.begun (subst (λ g. g < 4096) c.generation_of.ensures.value c.generation_of.ensures.small)
    ∙ ap (with_used _) (sym at.1)
    ∙ ap (λ (v : LiveIds). with_used v c.args.id) c.self.view_is)
