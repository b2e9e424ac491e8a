use Rattle.std.proofs.Common.{subst}
use Rattle.std.specs.Option.{IfSome, IsNone}
use Rattle.dialogues.specs.Dialogues.{OpenDialogues, IsNew}
use Rattle.dialogues.proofs.FullLemmas.{full_iff}
use Rattle.dialogues.proofs.NewIdLemmas.{new_if_next}
use Rattle.dialogues.proofs.dialogues.Dialogues.next_id.Goals as goal

pub returns-clause-is_new : goal.returns-clause-is_new
returns-clause-is_new c =
    let i = c.self.inside in
    subst (λ (d : OpenDialogues). IfSome c.next_id.result (IsNew d)) c.self.view_is
    (new_if_next i.transactions i.invocations i.talks.items c.next_id.result c.next_id.ensures.may)

pub returns-clause-full : goal.returns-clause-full
returns-clause-full c =
    let i = c.self.inside in
    full_iff i.transactions i.invocations i.talks.items c.args.self.now c.self.view_is c.self.invariant (IsNone c.next_id.result) c.next_id.ensures.none
