use Rattle.frames_laws.proofs.Laws as laws
use Rattle.frames_laws.proofs.trees_are_read.Goals as goal

pub returns : goal.returns
returns c = laws.trees_are_read
