use Rattle.std.proofs.Common.{◌≡◌, map, sym, ap, subst, ◌∙◌}
use Rattle.std.specs.FinMap as finite
use Rattle.machine.specs.Dialogues.{offer_to}
use Rattle.machine.specs.Effect as effects
use Rattle.machine.specs.Effect.{effect}
use Rattle.csl.specs.Effects.{IsEffect, offered}
use Rattle.csl.specs.Seen.{heard}
use Rattle.records.specs.Maps.{RecordMap}
use Rattle.dialogues.specs.Dialogues.{dialogues_of, invocations_in}
use Rattle.dialogues.specs.Seen.{kind_of}
use Rattle.hlrcore.proofs.ContinuingLemmas.{continuing_planned}
use Rattle.hlrcore.proofs.continuing.continued.Goals as goal

pub returns : goal.returns
returns c = λ t is.
    let s = c.args.shard.now in
    let o = c.args.opened in
    let cs = c.args.components.now in
    let same : effect c.clock.result (offered c.offer_to-offer.result) (invocations_in (dialogues_of c.dialogues.result.now o.id)) (map heard cs)
    ≡ effect s.clock (offer_to (kind_of o.dialogue.kind)) (invocations_in (dialogues_of s.dialogues o.id)) (map heard cs) =
    λ i. effect (c.clock.ensures.value i) (c.offer_to-offer.ensures i) (invocations_in (dialogues_of (c.dialogues.ensures.value i) o.id)) (map heard cs) in
    continuing_planned s o c.heard_from-transaction.result c.args.origin cs c.requires c.heard_from-transaction.ensures.active t
    c.get-subscriber.result c.in_ok-effect.effect c.continues-outcome.result c.plan_for.result (c.heard_from-transaction.ensures.row t is)
    (c.get-subscriber.ensures.found ∙ ap (λ (m : RecordMap). finite.get m o.dialogue.subscriber) c.records.ensures)
    (subst (λ (w : effects.Effect). IsEffect c.in_ok-effect.effect w) same c.in_ok-effect.ensures)
    (λ here vs did own hlr known does. c.continues-outcome.ensures.leaves here vs did own (hlr ∙ sym c.hlr.ensures) known does)
    c.continues-outcome.ensures.writable c.continues-outcome.ensures.keeps c.plan_for.ensures
