use Rattle.std.proofs.Common.{refl}
use Rattle.dialogues.specs.Dialogues.{gone_on}
use Rattle.dialogues.proofs.StepLemmas.{open_here, dialogues_keeping, tied_keeping}
use Rattle.dialogues.proofs.dialogues.Dialogues.go_on.Goals as goal

pub invariant_of-self-2 : goal.invariant_of-self-2
invariant_of-self-2 c =
    let i = c.self.inside in
    let some = open_here i.transactions i.invocations i.talks.items c.args.self.now c.args.id c.self.view_is c.requires in
    tied_keeping c.args.id c.args.left.now i.transactions i.invocations c.leave.new.self i.talks.items c.in_ok-leave.ensures.ok c.self.invariant
    (λ none. absurd (some none))

pub returns-clause-ok : goal.returns-clause-ok
returns-clause-ok c =
    let i = c.self.inside in
    dialogues_keeping c.args.id c.args.left.now i.transactions i.invocations c.leave.new.self i.talks.items c.in_ok-leave.ensures.ok
    c.args.self.now (gone_on c.args.left.now) c.self.view_is (λ s. refl)
