use Rattle.std.proofs.Common.{ap, refl}
use Rattle.std.proofs.lemmas.Int.{to_z-of_z}
use Rattle.machine.specs.Expiries.{without}
use Rattle.csl.specs.Tables.{invocations_at}
use Rattle.dialogues.specs.Dialogues.{forgotten}
use Rattle.dialogues.proofs.StepLemmas.{dialogues_keeping, tied_keeping}
use Rattle.dialogues.proofs.dialogues.Dialogues.forget_one.Goals as goal

pub invariant_of-self : goal.invariant_of-self
invariant_of-self c =
    let i = c.self.inside in
    let fits = c.ranges.invoke in
    tied_keeping c.args.id (without c.args.invoke (invocations_at i.invocations c.args.id)) i.transactions i.invocations c.forget_one.new.self i.talks.items
    (simp to_z-of_z at c.forget_one.ensures.idle) c.self.invariant (λ none. ap (without c.args.invoke) (c.self.invariant.only_open c.args.id none))

pub returns-clause-forgotten : goal.returns-clause-forgotten
returns-clause-forgotten c =
    let i = c.self.inside in
    let fits = c.ranges.invoke in
    dialogues_keeping c.args.id (without c.args.invoke (invocations_at i.invocations c.args.id)) i.transactions i.invocations c.forget_one.new.self i.talks.items
    (simp to_z-of_z at c.forget_one.ensures.idle) c.args.self.now (forgotten c.args.invoke) c.self.view_is (λ s. refl)
