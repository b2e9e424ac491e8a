use Rattle.frames_laws.proofs.Computed as laws
use Rattle.frames_laws.proofs.examples.components.Goals as goal

pub returns : goal.returns
returns c = laws.components
