use Rattle.records.proofs.InOrder.{same_in_order}
use Rattle.records.proofs.records.Records.same.Goals as goal

pub returns : goal.returns
returns c =
    same_in_order c.self.inside.in_order.items c.other.inside.in_order.items c.args.self.now c.args.other.now c.are_same.result
    c.self.view_is c.other.view_is c.self.invariant c.other.invariant
    (rw (← c.deref.ensures.value, ← c.deref-2.ensures.value) c.are_same.ensures)
