use Rattle.frames_laws.proofs.Laws as laws
use Rattle.frames_laws.proofs.parameters_are_read.Goals as goal

pub returns : goal.returns
returns c = laws.parameters_are_read
