use Rattle.std.proofs.Common.{ap}
use Rattle.records.specs.Subscriber.{Subscriber, allowed}
use Rattle.records.proofs.InOrder.{known_at, changed_order, changed_view}
use Rattle.records.proofs.records.Records.put.Goals as goal

pub allow-requires-clause-place : goal.allow-requires-clause-place
allow-requires-clause-place c =
    c.requires.place c.index_mut-found.result.now
    (known_at c.self.inside.in_order.items c.args.self.now c.args.imsi.now c.in-Some.at c.index_mut-found.result.now c.self.invariant c.self.view_is
    (rw c.deref.ensures.value at c.in-Some.ensures.found) c.index_mut-found.ensures.value)

pub invariant_of-self : goal.invariant_of-self
invariant_of-self c =
    changed_order c.self.inside.in_order.items c.args.imsi.now c.in-Some.at c.index_mut-found.result.now c.allow.new.self c.self.invariant
    (rw c.deref.ensures.value at c.in-Some.ensures.found) c.index_mut-found.ensures.value (ap (λ (s : Subscriber). s.imsi) c.allow.ensures)

pub returns : goal.returns
returns c =
    changed_view c.self.inside.in_order.items c.args.imsi.now c.in-Some.at c.index_mut-found.result.now c.allow.new.self c.self.invariant
    (rw c.deref.ensures.value at c.in-Some.ensures.found) c.index_mut-found.ensures.value (ap (λ (s : Subscriber). s.imsi) c.allow.ensures)
    c.args.self.now (λ (s : Subscriber). allowed s c.args.codes c.args.withdrawn) c.self.view_is c.allow.ensures
