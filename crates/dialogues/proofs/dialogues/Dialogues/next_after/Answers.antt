use Rattle.std.proofs.Common.{subst}
use Rattle.dialogues.specs.Dialogues.{OpenDialogues, IsNew}
use Rattle.dialogues.proofs.NewIdLemmas.{new_after}
use Rattle.dialogues.proofs.StepLemmas.{open_here}
use Rattle.dialogues.proofs.dialogues.Dialogues.next_after.Goals as goal

pub next_after-requires : goal.next_after-requires
next_after-requires c =
    let i = c.self.inside in
    open_here i.transactions i.invocations i.talks.items c.args.self.now c.args.id c.self.view_is c.requires

pub returns-clause-is_new : goal.returns-clause-is_new
returns-clause-is_new c =
    let i = c.self.inside in
    subst (λ (d : OpenDialogues). IsNew d c.next_after.result) c.self.view_is
    (new_after i.transactions i.invocations i.talks.items c.args.id c.next_after.result c.next_after.ensures.may)
