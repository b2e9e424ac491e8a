use Rattle.std.proofs.Common.{◌≢◌, None, subst}
use Rattle.std.specs.Prelude.{IfSome}
use Rattle.dialogues.specs.Dialogues.{dialogues_of}
use Rattle.hlrcore.specs.declared.plan.Named.{Named}
use Rattle.hlrcore.specs.Plans.{id_of}
use Rattle.hlrcore.proofs.ChangingLemmas.{goes_on_active, stays_open}
use Rattle.hlrcore.proofs.changing.go_on.Goals as goal

pub activate-requires : goal.activate-requires
activate-requires c =
    let before = dialogues_of c.args.dialogues.now in
    stays_open before (dialogues_of c.go_on-in-Continued.new.self) c.in-Continued.id c.args.left.now c.in_ok-go_on-in-Continued.ensures.ok
    (subst (λ (n : Named). IfSome (id_of n) (λ id. before id ≢ None)) c.in-Continued.is c.requires)

pub returns-in_ok-go_on-in-Continued-clause-ok : goal.returns-in_ok-go_on-in-Continued-clause-ok
returns-in_ok-go_on-in-Continued-clause-ok c =
    rw c.in-Continued.is (goes_on_active (dialogues_of c.args.dialogues.now) (dialogues_of c.go_on-in-Continued.new.self) c.in-Continued.id c.args.left.now
    c.in_ok-go_on-in-Continued.ensures.ok c.in-Continued.peer c.in-Continued.remote (dialogues_of c.activate.new.self) c.activate.ensures.active)
