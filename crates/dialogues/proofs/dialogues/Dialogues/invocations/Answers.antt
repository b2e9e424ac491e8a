use Rattle.std.proofs.Common.{◌≡◌, map, List, subst}
use Rattle.std.specs.Result.{IfOk}
use Rattle.machine.specs.State.{Invocation}
use Rattle.csl.specs.Seen.{told_of}
use Rattle.dialogues.proofs.JoinLemmas.{invocations_got}
use Rattle.dialogues.proofs.dialogues.Dialogues.invocations.Goals as goal

pub returns : goal.returns
returns c =
    let i = c.self.inside in
    subst (λ (vs : List Invocation). IfOk c.list.result (λ told. told.items ≡ map told_of vs))
    (invocations_got i.transactions i.invocations i.talks.items c.args.self.now c.args.id c.self.view_is c.self.invariant) c.list.ensures
