use Rattle.std.proofs.Common.{ap}
use Rattle.records.specs.Subscriber.{Subscriber, as_withdrawn}
use Rattle.records.proofs.InOrder.{changed_order, changed_view}
use Rattle.records.proofs.records.Records.withdraw.Goals as goal

pub invariant_of-self : goal.invariant_of-self
invariant_of-self c =
    changed_order c.self.inside.in_order.items c.args.imsi.now c.in-Some.at c.index_mut-found.result.now c.withdraw.new.self c.self.invariant
    (rw c.deref.ensures.value at c.in-Some.ensures.found) c.index_mut-found.ensures.value (ap (λ (s : Subscriber). s.imsi) c.withdraw.ensures)

pub returns : goal.returns
returns c =
    changed_view c.self.inside.in_order.items c.args.imsi.now c.in-Some.at c.index_mut-found.result.now c.withdraw.new.self c.self.invariant
    (rw c.deref.ensures.value at c.in-Some.ensures.found) c.index_mut-found.ensures.value (ap (λ (s : Subscriber). s.imsi) c.withdraw.ensures)
    c.args.self.now (λ (s : Subscriber). as_withdrawn s) c.self.view_is c.withdraw.ensures
