use Rattle.std.proofs.Common.{◌≡◌, ◌<◌, length, ap, sym, subst, ◌∙◌, arith}
use Rattle.std.specs.Ordering.{eq_by_cmp}
use Rattle.std.specs.Vec.{vec_capacity}
use Rattle.hlr_types.specs.Orders.{octets_cmp}
use Rattle.hlr_types.proofs.OrderLemmas.{pointwise-octets, same_octets, eq_octets}
use Rattle.tidalloc.specs.LiveIds.{LiveIds, id_at, generation_of}
use Rattle.tidalloc.specs.Resumed.{IsNextUnused}
use Rattle.tidalloc.proofs.UseLemmas.{is_next_unused, of_next_unused}
use Rattle.tidalloc.proofs.ids.Ids.is_next_unused.Goals as goal

pub returns : goal.returns
returns c =
    let i = c.self.inside in
    let id = c.args.id in
    let few : length i.slots.items < 4096 = omega (arith, c.len-slot.ensures, c.if-slot-eq-MAX_IDS.false, i.slots.ok.0, c.self.invariant.few) in
    let begun : 0 < generation_of id = omega (arith, c.generation_of-generation.ensures.value, c.if-generation-eq0.false) in
    let small : generation_of id < 4096 = omega (arith, c.generation_of-generation.ensures.value, c.generation_of-generation.ensures.small) in
    let at : c.id_at.result ≡ id_at i.shard (length i.slots.items) (generation_of id) =
    c.id_at.ensures ∙ ap (λ n. id_at i.shard n c.generation_of-generation.result) (c.len-slot.ensures ∙ i.slots.ok.0)
    ∙ ap (id_at i.shard (length i.slots.items)) c.generation_of-generation.ensures.value in
    let compared = c.eq.ensures ∙ pointwise-octets id c.id_at.result ∙ ap (eq_by_cmp octets_cmp id) at in (
      λ same. subst (λ (v : LiveIds). IsNextUnused v id) c.self.view_is
          (is_next_unused i.shard i.first i.slots.items i.free.items i.freed_last (vec_capacity i.slots) (vec_capacity i.free) id
          c.self.invariant few begun small (same_octets id _ (sym compared ∙ same))),
      λ is. compared ∙ eq_octets id _ (of_next_unused i.shard i.first i.slots.items i.free.items i.freed_last id
          (subst (λ (v : LiveIds). IsNextUnused v id) (sym c.self.view_is) is)).1,
    )
