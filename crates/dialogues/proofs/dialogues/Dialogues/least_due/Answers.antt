use Rattle.std.proofs.Common.{◌≢◌, None, subst}
use Rattle.std.specs.Option.{IfSome}
use Rattle.machine.specs.State.{State}
use Rattle.machine.specs.Turns.{Expiry}
use Rattle.dialogues.specs.Dialogues.{OpenDialogues, dialogues_of}
use Rattle.dialogues.specs.Expiring.{HasDialogues, expiry_turn}
use Rattle.dialogues.proofs.DueLemmas.{expiry_told, due_is_open}
use Rattle.dialogues.proofs.dialogues.Dialogues.least_due.Goals as goal

pub returns-clause-expiry : goal.returns-clause-expiry
returns-clause-expiry c =
    let i = c.self.inside in
    subst (λ (d : OpenDialogues). (S : State) → HasDialogues S d c.args.now → Expiry S d.shard (expiry_turn d c.least_due.result)) c.self.view_is
    (λ S has. expiry_told i.transactions i.invocations i.talks.items c.self.invariant
    S c.args.now has c.least_due.result c.least_due.ensures.due c.least_due.ensures.none)

pub returns-clause-is_open : goal.returns-clause-is_open
returns-clause-is_open c =
    let i = c.self.inside in
    subst (λ (d : OpenDialogues). IfSome c.least_due.result (λ due. dialogues_of d due.id ≢ None)) c.self.view_is
    (due_is_open i.transactions i.invocations i.talks.items c.self.invariant c.args.now c.least_due.result c.least_due.ensures.due)
