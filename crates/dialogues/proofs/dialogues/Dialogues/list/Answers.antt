use Rattle.std.proofs.Common.{◌≡◌, ℕ, List, ap, sym, ◌∙◌, subst}
use Rattle.std.specs.Result.{IfOk}
use Rattle.std.specs.FinMap as finite
use Rattle.dialogues.specs.Dialogues.{OpenDialogues}
use Rattle.dialogues.specs.Joined.{dialogue_at}
use Rattle.dialogues.proofs.JoinLemmas.{keys-remade}
use Rattle.dialogues.proofs.dialogues.Dialogues.list.Goals as goal

pub returns : goal.returns
returns c =
    let i = c.self.inside in
    subst (λ (ks : List (List ℕ)). IfOk c.list.result (λ ids. ids.items ≡ ks))
    (sym (keys-remade (dialogue_at i.invocations i.talks.items) i.transactions.open_ones)
    ∙ ap (λ (d : OpenDialogues). finite.keys d.open_ones) c.self.view_is) c.list.ensures
