use Rattle.frames_laws.proofs.Laws as laws
use Rattle.frames_laws.proofs.dialogues_are_read.Goals as goal

pub returns : goal.returns
returns c = laws.dialogues_are_read
