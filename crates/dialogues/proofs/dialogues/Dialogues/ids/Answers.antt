use Rattle.std.proofs.Common.{ap, sym, ◌∙◌}
use Rattle.std.specs.FinMap as finite
use Rattle.dialogues.specs.Dialogues.{OpenDialogues, count}
use Rattle.dialogues.specs.Joined.{dialogue_at}
use Rattle.dialogues.proofs.JoinLemmas.{keys-remade, len-remade}
use Rattle.dialogues.proofs.dialogues.Dialogues.ids.Goals as goal

pub returns-clause-live : goal.returns-clause-live
returns-clause-live c =
    let i = c.self.inside in
    c.ids.ensures.live
    ∙ sym (keys-remade (dialogue_at i.invocations i.talks.items) i.transactions.open_ones)
    ∙ ap (λ (d : OpenDialogues). finite.keys d.open_ones) c.self.view_is

pub returns-clause-count : goal.returns-clause-count
returns-clause-count c =
    let i = c.self.inside in
    c.ids.ensures.count
    ∙ sym (len-remade (dialogue_at i.invocations i.talks.items) i.transactions.open_ones)
    ∙ ap (λ (d : OpenDialogues). count d) c.self.view_is
