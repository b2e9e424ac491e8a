use Rattle.dialogues.proofs.StepLemmas.{dialogues_closed, tied_closed, open_here}
use Rattle.dialogues.proofs.dialogues.Dialogues.close.Goals as goal

pub close-requires : goal.close-requires
close-requires c =
    let i = c.self.inside in
    open_here i.transactions i.invocations i.talks.items c.args.self.now c.args.id c.self.view_is c.requires

pub invariant_of-self : goal.invariant_of-self
invariant_of-self c =
    let i = c.self.inside in
    tied_closed c.args.id i.transactions c.close.new.transactions i.invocations
    c.close.new.invocations i.talks.items c.close.ensures.closed c.close.ensures.forgotten c.self.invariant
    (open_here i.transactions i.invocations i.talks.items c.args.self.now c.args.id c.self.view_is c.requires)

pub returns-clause-closed : goal.returns-clause-closed
returns-clause-closed c =
    let i = c.self.inside in
    dialogues_closed c.args.id i.transactions c.close.new.transactions i.invocations c.close.new.invocations
    i.talks.items c.close.ensures.closed c.close.ensures.forgotten c.args.self.now c.self.view_is
