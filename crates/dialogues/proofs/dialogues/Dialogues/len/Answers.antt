use Rattle.std.proofs.Common.{◌≢◌, List, ℕ, None, ap, sym, ◌∙◌, subst}
use Rattle.machine.specs.State.{IsIdOf}
use Rattle.dialogues.specs.Dialogues.{OpenDialogues, count, dialogues_of}
use Rattle.dialogues.specs.Joined.{dialogue_at}
use Rattle.dialogues.proofs.JoinLemmas.{len-remade, transaction_open}
use Rattle.dialogues.proofs.NewIdLemmas.{machine_id}
use Rattle.dialogues.proofs.dialogues.Dialogues.len.Goals as goal

pub returns-clause-value : goal.returns-clause-value
returns-clause-value c =
    let i = c.self.inside in
    c.len.ensures.value ∙ sym (len-remade (dialogue_at i.invocations i.talks.items) i.transactions.open_ones)
    ∙ ap (λ (d : OpenDialogues). count d) c.self.view_is

pub returns-clause-of_shard : goal.returns-clause-of_shard
returns-clause-of_shard c =
    let i = c.self.inside in
    subst (λ (d : OpenDialogues). (id : List ℕ) → dialogues_of d id ≢ None → IsIdOf d.shard id) c.self.view_is
    (λ id some. machine_id i.transactions.shard id (c.self.invariant.of_shard id (transaction_open i.transactions i.invocations i.talks.items id some)))
