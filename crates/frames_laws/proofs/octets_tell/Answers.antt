use Rattle.frames_laws.proofs.Laws as laws
use Rattle.frames_laws.proofs.octets_tell.Goals as goal

pub returns : goal.returns
returns c = laws.octets_tell
