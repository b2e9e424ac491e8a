use Rattle.std.proofs.Common.{◌≡◌, ap, ◌∙◌}
use Rattle.machine.specs.Effect.{Effect}
use Rattle.machine.specs.Dialogues.{continues_as}
use Rattle.dialogues.specs.Seen.{dialogue_with, kind_of}
use Rattle.location.specs.Seen.{effect_of}
use Rattle.location.proofs.continuing.continues.Goals as goal

pub returns-clause-leaves : goal.returns-clause-leaves
returns-clause-leaves c = λ here vs did own hlr is does.
    let same : effect_of c.args.effect ≡ did = λ i. record {
      rejects = does.rejects i;
      started = does.started i;
      invocations = does.left i;
      conclusion = does.conclusion i;
    } in
    c.continues_by.ensures.leaves here vs own hlr is
    ∙ ap (λ (e : Effect). continues_as here c.args.id (dialogue_with vs c.args.dialogue.now) (kind_of c.args.dialogue.now.kind) e c.args.new) same
