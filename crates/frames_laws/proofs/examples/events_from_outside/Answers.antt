use Rattle.frames_laws.proofs.PortionsComputed as laws
use Rattle.frames_laws.proofs.examples.events_from_outside.Goals as goal

pub returns : goal.returns
returns c = laws.events_from_outside
