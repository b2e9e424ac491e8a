use Rattle.std.proofs.Common.{refl}
use Rattle.tsl.specs.Transactions.{active}
use Rattle.dialogues.specs.Dialogues.{activated}
use Rattle.dialogues.proofs.StepLemmas.{open_here, dialogues_active, tied_active}
use Rattle.dialogues.proofs.dialogues.Dialogues.activate.Goals as goal

pub set-requires : goal.set-requires
set-requires c =
    let i = c.self.inside in
    open_here i.transactions i.invocations i.talks.items c.args.self.now c.args.id c.self.view_is c.requires

pub invariant_of-self : goal.invariant_of-self
invariant_of-self c =
    let i = c.self.inside in
    tied_active c.args.id i.transactions c.set.new.self i.invocations i.talks.items (active c.args.peer c.args.remote) c.set.ensures c.self.invariant
    (open_here i.transactions i.invocations i.talks.items c.args.self.now c.args.id c.self.view_is c.requires)

pub returns-clause-active : goal.returns-clause-active
returns-clause-active c =
    let i = c.self.inside in
    dialogues_active c.args.id i.transactions c.set.new.self i.invocations i.talks.items (active c.args.peer c.args.remote) c.set.ensures
    c.args.self.now (activated c.args.peer c.args.remote) c.self.view_is
    (open_here i.transactions i.invocations i.talks.items c.args.self.now c.args.id c.self.view_is c.requires) (λ s. refl)
