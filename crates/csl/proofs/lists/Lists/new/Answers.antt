use Rattle.csl.proofs.Putting.{stored_none}
use Rattle.csl.proofs.lists.Lists.new.Goals as goal

pub invariant_of-result : goal.invariant_of-result
invariant_of-result c = rw c.new.ensures.empty stored_none
