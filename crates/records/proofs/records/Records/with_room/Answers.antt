use Rattle.records.proofs.InOrder.{ordered_none}
use Rattle.records.proofs.records.Records.with_room.Goals as goal

pub invariant_of-result : goal.invariant_of-result
invariant_of-result c = rw c.in_ok-with_capacity.ensures.items ordered_none
