use Rattle.std.proofs.Common.{◌≡◌, Some, ap, ◌∙◌, subst}
use Rattle.std.specs.Vec.{vec_capacity}
use Rattle.tidalloc.specs.LiveIds.{LiveIds, MayBeTaken, given_back, is_live, next_of, next_use}
use Rattle.tidalloc.proofs.StepLemmas.{next_after}
use Rattle.tidalloc.proofs.ids.Ids.next_after.Goals as goal

pub returns-clause-next : goal.returns-clause-next
returns-clause-next c =
    let i = c.self.inside in
    let live = ap (λ (v : LiveIds). is_live v c.args.id) c.self.view_is ∙ c.requires in
    let is = next_after i.shard i.first i.slots.items i.free.items i.freed_last (vec_capacity i.slots) (vec_capacity i.free) c.args.id c.self.invariant live in
    rw c.next_use.ensures (subst (λ (v : LiveIds). next_of (given_back v c.args.id) ≡ Some (next_use c.args.id)) c.self.view_is is.0)

pub returns-clause-may : goal.returns-clause-may
returns-clause-may c =
    let i = c.self.inside in
    let live = ap (λ (v : LiveIds). is_live v c.args.id) c.self.view_is ∙ c.requires in
    let is = next_after i.shard i.first i.slots.items i.free.items i.freed_last (vec_capacity i.slots) (vec_capacity i.free) c.args.id c.self.invariant live in
    rw c.next_use.ensures (subst (λ (v : LiveIds). MayBeTaken (given_back v c.args.id) (next_use c.args.id)) c.self.view_is is.1)
