use Rattle.std.proofs.Common.{subst}
use Rattle.std.specs.Vec.{vec_capacity}
use Rattle.tidalloc.specs.LiveIds.{LiveIds}
use Rattle.tidalloc.specs.Resumed.{IsResumed}
use Rattle.tidalloc.proofs.ResumedLemmas.{resumed}
use Rattle.tidalloc.proofs.ids.Ids.law_resumed.Goals as goal

pub returns : goal.returns
returns c =
    let i = c.self.inside in
    subst (λ (v : LiveIds). IsResumed v) c.self.view_is
    (resumed i.shard i.first i.slots.items i.free.items i.freed_last (vec_capacity i.slots) (vec_capacity i.free) c.self.invariant)
