use Rattle.std.proofs.Common.{List, ℕ, ap, subst, ◌∙◌}
use Rattle.std.specs.List.Sorted.{IsPermutation}
use Rattle.tidalloc.specs.LiveIds.{LiveIds}
use Rattle.tidalloc.specs.Resumed.{ascending}
use Rattle.tidalloc.proofs.ListingLemmas.{ids-listed}
use Rattle.tidalloc.proofs.ids.Ids.live_ids.Goals as goal

pub returns : goal.returns
returns c =
    let i = c.self.inside in
    let sorted = c.sort_unstable.new.self.items in
    ids-listed i.shard i.slots.items sorted c.self.invariant.few
    (subst (λ (xs : List (List ℕ)). IsPermutation xs sorted) (rw c.deref.ensures.value at c.in_ok-ids.ensures) c.sort_unstable.ensures.permutation)
    c.sort_unstable.ensures.sorted
    ∙ ap (λ (v : LiveIds). ascending v.live) c.self.view_is
