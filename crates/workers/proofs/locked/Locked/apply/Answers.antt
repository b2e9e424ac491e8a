use Rattle.workers.proofs.GoingLemmas.{stands_on}
use Rattle.workers.proofs.locked.Locked.apply.Goals as goal

pub invariant_of-self : goal.invariant_of-self
invariant_of-self g c =
    stands_on g.J.Naming.began c.self.inside.shard c.apply.new.shard c.self.invariant c.apply.ensures.gone_on c.apply.ensures.keeps
