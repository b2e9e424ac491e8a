use Rattle.std.proofs.Common.{sym, ◌∙◌}
use Rattle.std.proofs.lemmas.Result.{IfOk-weaker}
use Rattle.dialogues.proofs.SameLemmas.{same_dialogues}
use Rattle.dialogues.proofs.dialogues.Dialogues.same.Goals as goal

pub returns : goal.returns
returns c =
    let supply = c.goes_on_as.ensures.0 c.if-not-goes_on_as.false in
    IfOk-weaker c.same_in.result _ _
    (λ same d. same_dialogues c.args.self.now c.args.other.now _ _ same c.requires supply
    (c.deref-3.ensures.value ∙ c.in_ok-ids.ensures) (c.deref-2.ensures.value ∙ c.in_ok-others.ensures)
    (c.deref-3.ensures.value ∙ sym c.deref.ensures.value ∙ c.same_ids.ensures.0 c.if-not-same_ids.false) d)
    c.same_in.ensures
