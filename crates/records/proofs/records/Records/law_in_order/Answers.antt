use Rattle.std.proofs.Common.{sym, ap, subst, ◌∙◌}
use Rattle.std.specs.FinMap as map
use Rattle.records.specs.Loaded.{by_imsi}
use Rattle.records.specs.Maps.{AreByImsi, RecordMap}
use Rattle.records.specs.Ordered.{AreInOrder}
use Rattle.records.proofs.InOrder.{own_imsis, values_in_order}
use Rattle.records.proofs.records.Records.law_in_order.Goals as goal

pub returns-clause-own : goal.returns-clause-own
returns-clause-own c = subst AreByImsi c.self.view_is (own_imsis c.self.inside.in_order.items)

pub returns-clause-order : goal.returns-clause-order
returns-clause-order c =
    let is = values_in_order c.self.inside.in_order.items c.self.invariant in
    subst AreInOrder (sym is ∙ ap (λ (m : RecordMap). map.values m) c.self.view_is) c.self.invariant

pub returns-clause-whole : goal.returns-clause-whole
returns-clause-whole c =
    let is = values_in_order c.self.inside.in_order.items c.self.invariant in
    ap (λ (m : RecordMap). by_imsi (map.values m)) (sym c.self.view_is) ∙ ap by_imsi is ∙ c.self.view_is
