use Rattle.records.proofs.MovedLemmas.{apart_none}
use Rattle.records.proofs.unordered.Unordered.with_room.Goals as goal

pub invariant_of-result : goal.invariant_of-result
invariant_of-result c = rw c.in_ok-with_capacity.ensures.items (apart_none c.new.result.keys c.new.ensures.empty)
