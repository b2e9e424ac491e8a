use Rattle.std.proofs.Common.{ℕ, List, [], None, ◌∙◌, sym, ap, refl, subst}
use Rattle.machine.specs.Received.{Discard, Refuse}
use Rattle.machine.specs.Sent.{SentAbort, Cause}
use Rattle.machine.specs.Outcome.{send}
use Rattle.msgarena.specs.Seen.{seen}
use Rattle.hlrcore.specs.Answers.{Says}
use Rattle.hlrcore.proofs.IdsLemmas.{says_nothing}
use Rattle.hlrcore.proofs.ReceivingLemmas.{received_as}
use Rattle.hlrcore.proofs.TakenLemmas.{then_ok}
use Rattle.hlrcore.proofs.parts.ShardParts.receive.Goals as goal

pub returns-in-Discard-clause-received : goal.returns-in-Discard-clause-received
returns-in-Discard-clause-received c =
    received_as _ c.args.indication.now Discard [] _ (record { routed = c.requires.mine; judged = c.verdict.ensures.judged })
    (sym c.verdict.ensures.value ∙ ap seen c.in-Discard.is) (λ d. refl) c.silent.ensures

pub returns-in-Refuse-clause-received : goal.returns-in-Refuse-clause-received
returns-in-Refuse-clause-received c =
    let abort = SentAbort c.in-Refuse.origin (Cause c.in-Refuse.cause) in
    then_ok c.aborted.result
    (λ a says. received_as _ c.args.indication.now (Refuse c.in-Refuse.origin c.in-Refuse.cause) (send c.args.indication.now.from abort) a
    (record { routed = c.requires.mine; judged = c.verdict.ensures.judged }) (sym c.verdict.ensures.value ∙ ap seen c.in-Refuse.is) (λ d. refl)
    (subst (λ (to : List ℕ). Says a None None (send to abort)) c.from.ensures says))
    c.aborted.ensures

pub returns-in-Discard-clause-ids : goal.returns-in-Discard-clause-ids
returns-in-Discard-clause-ids c = says_nothing c.args.self.now.dialogues c.silent.result _ _ c.silent.ensures

pub returns-in-Refuse-clause-ids : goal.returns-in-Refuse-clause-ids
returns-in-Refuse-clause-ids c = then_ok c.aborted.result (λ a says. says_nothing c.args.self.now.dialogues a _ _ says) c.aborted.ensures
