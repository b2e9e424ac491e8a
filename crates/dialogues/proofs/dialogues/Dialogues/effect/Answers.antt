use Rattle.std.proofs.Common.{map, List, subst}
use Rattle.std.specs.Result.{IfOk}
use Rattle.machine.specs.Effect.{effect}
use Rattle.machine.specs.State.{Invocation}
use Rattle.csl.specs.Effects.{IsEffect, offered}
use Rattle.csl.specs.Seen.{heard}
use Rattle.dialogues.proofs.JoinLemmas.{invocations_got}
use Rattle.dialogues.proofs.dialogues.Dialogues.effect.Goals as goal

pub returns : goal.returns
returns g c =
    let i = c.self.inside in
    subst (λ (vs : List Invocation). IfOk c.effect.result (λ answer. IsEffect answer
    (effect {P = g.row.P.Denot} c.args.now (offered c.args.offer.now) vs (map heard c.args.components.now))))
    (invocations_got i.transactions i.invocations i.talks.items c.args.self.now c.args.id c.self.view_is c.self.invariant) c.effect.ensures
