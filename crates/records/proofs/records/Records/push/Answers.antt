use Rattle.std.proofs.Common.{ap, sym, subst, ◌∙◌}
use Rattle.std.specs.FinMap as map
use Rattle.records.specs.Maps.{RecordMap}
use Rattle.records.specs.Loaded.{by_imsi}
use Rattle.records.specs.Ordered.{IsAbove}
use Rattle.records.proofs.InOrder.{ordered_push, view_push, absent_above}
use Rattle.records.proofs.records.Records.push.Goals as goal

pub invariant_of-self-2 : goal.invariant_of-self-2
invariant_of-self-2 c =
    let v = c.args.subscriber in
    rw c.in_ok-push.ensures.items
    (ordered_push c.self.inside.in_order.items v c.self.invariant (subst (λ (m : RecordMap). IsAbove m v.imsi) (sym c.self.view_is) c.requires))

pub returns : goal.returns
returns c =
    let v = c.args.subscriber in
    let above = subst (λ (m : RecordMap). IsAbove m v.imsi) (sym c.self.view_is) c.requires in
    ap by_imsi c.in_ok-push.ensures.items ∙ view_push c.self.inside.in_order.items v (absent_above (by_imsi c.self.inside.in_order.items) v.imsi above)
    ∙ ap (λ (m : RecordMap). map.insert m v.imsi v) c.self.view_is
