use Rattle.std.proofs.Common.{◌≡◌, ◌+◌, ◌<◌, length, true, subst, sym, ap, ◌∙◌}
use Rattle.std.specs.FinSet as set
use Rattle.std.specs.Vec.{vec_capacity}
use Rattle.tidalloc.specs.LiveIds.{LiveIds, HaveOwnSlots, is_live, slot_of}
use Rattle.tidalloc.proofs.StepLemmas.{own_slots}
use Rattle.tidalloc.proofs.UseLemmas.{below_used}
use Rattle.tidalloc.proofs.ids.Ids.slot.Goals as goal

pub returns-then-is_live-clause-own : goal.returns-then-is_live-clause-own
returns-then-is_live-clause-own c =
    subst (λ (v : LiveIds). HaveOwnSlots v) c.self.view_is (own_slots c.self.inside.shard c.self.inside.slots.items c.self.invariant.few)

pub returns-else-is_live-clause-own : goal.returns-else-is_live-clause-own
returns-else-is_live-clause-own c =
    subst (λ (v : LiveIds). HaveOwnSlots v) c.self.view_is (own_slots c.self.inside.shard c.self.inside.slots.items c.self.invariant.few)

pub returns-then-is_live-clause-used : goal.returns-then-is_live-clause-used
returns-then-is_live-clause-used c =
    let i = c.self.inside in
    let live : is_live c.args.self.now c.args.id ≡ true = sym c.is_live.ensures ∙ c.if-is_live.true in
    let below = below_used i.shard i.first i.slots.items i.free.items i.freed_last (vec_capacity i.slots) (vec_capacity i.free) c.args.id c.self.invariant
    (ap (λ (v : LiveIds). is_live v c.args.id) c.self.view_is ∙ live) in
    rw c.slot_of.ensures.value (subst (λ (v : LiveIds). slot_of c.args.id < set.len v.live + length v.supply.free) c.self.view_is below)
