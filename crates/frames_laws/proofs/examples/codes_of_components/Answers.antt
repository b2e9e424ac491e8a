use Rattle.frames_laws.proofs.PortionsComputed as laws
use Rattle.frames_laws.proofs.examples.codes_of_components.Goals as goal

pub returns : goal.returns
returns c = laws.codes_of_components
