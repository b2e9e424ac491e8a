use Rattle.std.proofs.Common.{subst, ap, ◌∙◌}
use Rattle.std.specs.Vec.{vec_capacity}
use Rattle.tidalloc.specs.LiveIds.{LiveIds}
use Rattle.tidalloc.specs.Resumed.{AreTakenAgain, ascending}
use Rattle.tidalloc.proofs.ResumedLemmas.{taken_again}
use Rattle.tidalloc.proofs.ids.Ids.law_taken_again.Goals as goal

pub returns : goal.returns
returns c = λ front more id split.
    let i = c.self.inside in
    subst (λ (v : LiveIds). AreTakenAgain v id more) c.self.view_is
    (taken_again i.shard i.first i.slots.items i.free.items i.freed_last (vec_capacity i.slots) (vec_capacity i.free) c.self.invariant front more id
    (ap (λ (v : LiveIds). ascending v.live) c.self.view_is ∙ split))
