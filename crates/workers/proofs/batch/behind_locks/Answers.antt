use Rattle.std.proofs.Common.{sym, subst}
use Rattle.wholenode.specs.Nodes.{NodeState}
use Rattle.workers.specs.Going.{HaveGoneOn}
use Rattle.workers.proofs.batch.behind_locks.Goals as goal

pub returns-clause-gone_on : goal.returns-clause-gone_on
returns-clause-gone_on g c =
    subst (λ (n : NodeState). HaveGoneOn n.shards c.in_ok-node.node.shards) (sym c.requires.began) c.in_ok-node.ensures.gone_on
