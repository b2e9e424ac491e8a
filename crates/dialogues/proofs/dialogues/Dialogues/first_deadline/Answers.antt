use Rattle.std.proofs.Common.{◌≡◌, subst}
use Rattle.machine.specs.Deadlines.{IsFirst, IsTimer}
use Rattle.machine.specs.State.{State}
use Rattle.dialogues.specs.Dialogues.{OpenDialogues, dialogues_of}
use Rattle.dialogues.proofs.FirstLemmas.{first_told}
use Rattle.dialogues.proofs.dialogues.Dialogues.first_deadline.Goals as goal

pub returns : goal.returns
returns c =
    let i = c.self.inside in
    subst (λ (d : OpenDialogues). (S : State) → S.dialogues ≡ dialogues_of d → IsFirst (IsTimer S d.shard) c.first_deadline.result) c.self.view_is
    (λ S same. first_told i.transactions i.invocations i.talks.items c.self.invariant S same c.first_deadline.result c.first_deadline.ensures)
