use Rattle.std.proofs.Common.{ap}
use Rattle.records.specs.Subscriber.{Subscriber, placed}
use Rattle.records.proofs.InOrder.{known_at, changed_order, changed_view}
use Rattle.records.proofs.records.Records.set.Goals as goal

pub place-requires : goal.place-requires
place-requires c =
    c.requires.place c.index_mut-found.result.now
    (known_at c.self.inside.in_order.items c.args.self.now c.args.imsi.now c.in-Some.at c.index_mut-found.result.now c.self.invariant c.self.view_is
    (rw c.deref.ensures.value at c.in-Some.ensures.found) c.index_mut-found.ensures.value)

pub invariant_of-self : goal.invariant_of-self
invariant_of-self c =
    changed_order c.self.inside.in_order.items c.args.imsi.now c.in-Some.at c.index_mut-found.result.now c.place.new.self c.self.invariant
    (rw c.deref.ensures.value at c.in-Some.ensures.found) c.index_mut-found.ensures.value (ap (λ (s : Subscriber). s.imsi) c.place.ensures)

pub returns : goal.returns
returns c =
    changed_view c.self.inside.in_order.items c.args.imsi.now c.in-Some.at c.index_mut-found.result.now c.place.new.self c.self.invariant
    (rw c.deref.ensures.value at c.in-Some.ensures.found) c.index_mut-found.ensures.value (ap (λ (s : Subscriber). s.imsi) c.place.ensures)
    c.args.self.now (λ (s : Subscriber). placed s c.args.register c.args.purged c.args.current) c.self.view_is c.place.ensures
