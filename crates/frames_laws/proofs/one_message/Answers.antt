use Rattle.frames_laws.proofs.Laws as laws
use Rattle.frames_laws.proofs.one_message.Goals as goal

pub returns : goal.returns
returns c = laws.one_message
