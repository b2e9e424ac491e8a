use Rattle.frames_laws.proofs.Laws as laws
use Rattle.frames_laws.proofs.components_are_heard.Goals as goal

pub returns : goal.returns
returns c = laws.components_are_heard
