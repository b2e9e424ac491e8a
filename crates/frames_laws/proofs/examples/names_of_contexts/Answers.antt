use Rattle.frames_laws.proofs.PortionsComputed as laws
use Rattle.frames_laws.proofs.examples.names_of_contexts.Goals as goal

pub returns : goal.returns
returns c = laws.names_of_contexts
