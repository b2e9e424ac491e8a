use Rattle.tidalloc.proofs.StepLemmas.{AreSlots-none}
use Rattle.tidalloc.proofs.ids.Ids.new.Goals as goal

pub invariant_of-result : goal.invariant_of-result
invariant_of-result c =
    rw (c.in_ok-with_capacity.ensures.items, c.in_ok-with_capacity-2.ensures.items)
    (AreSlots-none c.args.shard _ _ c.requires c.in_ok-with_capacity.ensures.capacity c.in_ok-with_capacity-2.ensures.capacity)
