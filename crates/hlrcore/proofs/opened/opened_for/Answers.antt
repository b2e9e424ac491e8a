use Rattle.hlrcore.proofs.LookLemmas.{found_for}
use Rattle.hlrcore.proofs.opened.opened_for.Goals as goal

pub returns-in-For : goal.returns-in-For
returns-in-For c =
    found_for c.dialogues.result.now c.args.shard.now.dialogues c.args.head.now c.in-For.id c.opened_at.result c.dialogues.ensures.value
    c.in-For.ensures c.opened_at.ensures
