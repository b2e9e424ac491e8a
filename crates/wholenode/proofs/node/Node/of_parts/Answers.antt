use Rattle.wholenode.proofs.WholeLemmas.{node_keeps}
use Rattle.wholenode.proofs.node.Node.of_parts.Goals as goal

pub returns-clause-keeps : goal.returns-clause-keeps
returns-clause-keeps c = node_keeps _ _ c.requires
