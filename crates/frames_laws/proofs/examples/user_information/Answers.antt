use Rattle.frames_laws.proofs.PortionsComputed as laws
use Rattle.frames_laws.proofs.examples.user_information.Goals as goal

pub returns : goal.returns
returns c = laws.user_information
