use Rattle.dialogues.proofs.StepLemmas.{fresh_if_none}
use Rattle.dialogues.proofs.dialogues.Dialogues.new.Goals as goal

pub returns : goal.returns
returns c = fresh_if_none c.args.shard c.in_ok-new.field-0 c.with_ids.result c.in_ok-new.ensures c.with_ids.ensures
