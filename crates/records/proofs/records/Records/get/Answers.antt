use Rattle.std.proofs.Common.{sym}
use Rattle.records.proofs.InOrder.{known_at}
use Rattle.records.proofs.records.Records.get.Goals as goal

pub returns-clause-found : goal.returns-clause-found
returns-clause-found c =
    sym (known_at c.self.inside.in_order.items c.args.self.now c.args.imsi.now c.in-Some.at c.index-found.result.now c.self.invariant c.self.view_is
    (rw c.deref.ensures.value at c.in-Some.ensures.found) c.index-found.ensures)
