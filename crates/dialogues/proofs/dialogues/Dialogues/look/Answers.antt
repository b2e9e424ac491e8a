use Rattle.std.proofs.Common.{◌∙◌}
use Rattle.dialogues.proofs.LookLemmas.{received_is_looked}
use Rattle.dialogues.proofs.dialogues.Dialogues.look.Goals as goal

pub returns : goal.returns
returns c = λ from.
    let i = c.self.inside in
    c.look.ensures from ∙ received_is_looked i.transactions i.invocations i.talks.items from c.args.self.now c.args.head.now c.self.view_is
