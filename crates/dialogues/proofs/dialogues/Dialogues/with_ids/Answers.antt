use Rattle.dialogues.proofs.StepLemmas.{tied_none, joined_none}
use Rattle.dialogues.proofs.dialogues.Dialogues.with_ids.Goals as goal

pub invariant_of-result : goal.invariant_of-result
invariant_of-result c = rw (c.in_ok-with_ids.ensures, c.new.ensures, c.new-2.ensures.items) (tied_none c.args.ids)

pub returns : goal.returns
returns c = rw (c.in_ok-with_ids.ensures, c.new.ensures, c.new-2.ensures.items) (joined_none c.args.ids)
