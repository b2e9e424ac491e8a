use Rattle.std.proofs.Common.{sym, ap, ◌∙◌}
use Rattle.std.specs.FinMap as map
use Rattle.std.proofs.lemmas.Result.{IfOk-weaker}
use Rattle.records.specs.Maps.{RecordMap}
use Rattle.records.proofs.InOrder.{values_in_order}
use Rattle.records.proofs.records.Records.list.Goals as goal

pub returns : goal.returns
returns c =
    let same = c.deref.ensures.value ∙ sym (values_in_order c.self.inside.in_order.items c.self.invariant)
    ∙ ap (λ (m : RecordMap). map.values m) c.self.view_is in
    IfOk-weaker c.all.result _ _ (λ list e. e ∙ same) c.all.ensures
