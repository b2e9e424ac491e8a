use Rattle.frames_laws.proofs.PortionsComputed as laws
use Rattle.frames_laws.proofs.examples.versions.Goals as goal

pub returns : goal.returns
returns c = laws.versions
