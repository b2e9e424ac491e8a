use Rattle.frames_laws.proofs.Laws as laws
use Rattle.frames_laws.proofs.verdicts_are_read.Goals as goal

pub returns : goal.returns
returns c = laws.verdicts_are_read
