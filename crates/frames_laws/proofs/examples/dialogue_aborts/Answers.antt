use Rattle.frames_laws.proofs.PortionsComputed as laws
use Rattle.frames_laws.proofs.examples.dialogue_aborts.Goals as goal

pub returns : goal.returns
returns c = laws.dialogue_aborts
