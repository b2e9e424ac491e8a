use Rattle.frames_laws.proofs.Laws as laws
use Rattle.frames_laws.proofs.sent_is_meant.Goals as goal

pub returns : goal.returns
returns c = laws.sent_is_meant
