use Rattle.std.proofs.Common.{◌≡◌, ◌&&◌, Some, refl, sym, ap, ◌∙◌}
use Rattle.std.specs.List.{slice_get}
use Rattle.std.specs.Ordering.{eq_by_cmp}
use Rattle.std.proofs.lemmas.Bool.{ltb-true}
use Rattle.std.proofs.lemmas.Option.{slice_get_read, slice_get_past}
use Rattle.hlr_types.specs.Orders.{octets_cmp}
use Rattle.hlr_types.proofs.OrderLemmas.{pointwise-octets}
use Rattle.tidalloc.specs.LiveIds.{LiveIds, is_live, id_at}
use Rattle.tidalloc.specs.Slots.{is_at}
use Rattle.tidalloc.proofs.SlotLemmas.{contains-live_of}
use Rattle.tidalloc.proofs.StepLemmas.{live_here}
use Rattle.tidalloc.proofs.ids.Ids.is_live.Goals as goal

pub returns-then-slot : goal.returns-then-slot
returns-then-slot c =
    let i = c.self.inside in
    let look = rw c.deref.ensures.value at c.in-Some.ensures.lookup in
    let stands : slice_get i.slots.items c.slot_of-place.result ≡ Some c.in-Some.slot.now =
    slice_get_read i.slots.items _ _ _ refl (ltb-true _ _ (sym look.0)) look.1 in
    let id = c.args.id in
    c.eq.ensures ∙ pointwise-octets id c.id_at.result ∙ ap (eq_by_cmp octets_cmp id) c.id_at.ensures
    ∙ ap (λ b. b && eq_by_cmp octets_cmp id (id_at i.shard c.slot_of-place.result c.in-Some.slot.now.generation)) (sym c.if-slot.true)
    ∙ sym (ap (λ (v : LiveIds). is_live v id) (sym c.self.view_is)
    ∙ live_here i.shard i.slots.items id _ _ c.self.invariant.few c.slot_of-place.ensures.value stands)

pub returns-else-slot : goal.returns-else-slot
returns-else-slot c =
    let i = c.self.inside in
    let look = rw c.deref.ensures.value at c.in-Some.ensures.lookup in
    let stands : slice_get i.slots.items c.slot_of-place.result ≡ Some c.in-Some.slot.now =
    slice_get_read i.slots.items _ _ _ refl (ltb-true _ _ (sym look.0)) look.1 in
    let id = c.args.id in
    c.if-slot.false
    ∙ ap (λ b. b && eq_by_cmp octets_cmp id (id_at i.shard c.slot_of-place.result c.in-Some.slot.now.generation)) (sym c.if-slot.false)
    ∙ sym (ap (λ (v : LiveIds). is_live v id) (sym c.self.view_is)
    ∙ live_here i.shard i.slots.items id _ _ c.self.invariant.few c.slot_of-place.ensures.value stands)

pub returns-in-None : goal.returns-in-None
returns-in-None c =
    let i = c.self.inside in
    sym (ap (λ (v : LiveIds). is_live v c.args.id) (sym c.self.view_is)
    ∙ contains-live_of i.shard c.args.id i.slots.items c.self.invariant.few
    ∙ ap (is_at i.shard c.args.id) (slice_get_past i.slots.items _ (rw (c.deref.ensures.value, c.slot_of-place.ensures.value) at c.in-None.ensures.lookup.3)))
