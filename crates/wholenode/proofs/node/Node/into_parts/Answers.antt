use Rattle.wholenode.proofs.WholeLemmas.{keeps_seen}
use Rattle.wholenode.proofs.node.Node.into_parts.Goals as goal

pub returns-clause-keeps : goal.returns-clause-keeps
returns-clause-keeps c = keeps_seen _ _ _ c.self.view_is c.self.invariant
