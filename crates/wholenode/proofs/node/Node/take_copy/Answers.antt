use Rattle.wholenode.proofs.WholeLemmas.{keeps_seen}
use Rattle.wholenode.proofs.node.Node.take_copy.Goals as goal

pub returns-in_err-event-clause-keeps : goal.returns-in_err-event-clause-keeps
returns-in_err-event-clause-keeps c = keeps_seen _ _ _ c.self.view_is c.self.invariant

pub returns-clause-takes : goal.returns-clause-takes
returns-clause-takes c = rw c.in_ok-event.ensures at c.take.ensures.takes

pub returns-clause-refused : goal.returns-clause-refused
returns-clause-refused c = rw c.in_ok-event.ensures at c.take.ensures.refused
