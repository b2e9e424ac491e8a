use Rattle.frames_laws.proofs.Laws as laws
use Rattle.frames_laws.proofs.messages_are_read.Goals as goal

pub returns : goal.returns
returns c = laws.messages_are_read
