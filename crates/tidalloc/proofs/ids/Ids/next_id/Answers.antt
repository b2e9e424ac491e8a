use Rattle.std.proofs.Common.{List, ℕ, Option, IfSome, subst, sym}
use Rattle.std.specs.Vec.{vec_capacity}
use Rattle.tidalloc.specs.LiveIds.{LiveIds, MayBeTaken, next_of}
use Rattle.tidalloc.specs.Slots.{ids_of}
use Rattle.tidalloc.proofs.SupplyLemmas.{next_is}
use Rattle.tidalloc.proofs.NextLemmas.{next_all_may}
use Rattle.tidalloc.proofs.ids.Ids.next_id.Goals as goal

pub returns-clause-may : goal.returns-clause-may
returns-clause-may c =
    let i = c.self.inside in
    let may = next_all_may i.shard i.first i.slots.items i.free.items i.freed_last (vec_capacity i.slots) (vec_capacity i.free) c.self.invariant in
    subst (λ (o : Option (List ℕ)). IfSome o (MayBeTaken c.args.self.now)) (sym c.unused_id.ensures.value)
    (subst (λ (v : LiveIds). IfSome (next_of v) (MayBeTaken v)) c.self.view_is
    (subst (λ (o : Option (List ℕ)). IfSome o (MayBeTaken (ids_of i.shard i.first i.slots.items i.free.items i.freed_last)))
    (sym (next_is i.shard i.first i.slots.items i.free.items)) may))
