use Rattle.dialogues.proofs.FullLemmas.{told_none}
use Rattle.machine.specs.State.{IsFull}
use Rattle.dialogues.proofs.dialogues.Dialogues.is_full.Goals as goal

pub returns-clause-full : goal.returns-clause-full
returns-clause-full c = λ S is. told_none c.next_id.result c.is_none.result (IsFull S c.args.self.now.shard) c.is_none.ensures (c.next_id.ensures.full S is)
