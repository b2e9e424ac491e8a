use Rattle.frames_laws.proofs.Computed as laws
use Rattle.frames_laws.proofs.examples.most_components.Goals as goal

pub returns : goal.returns
returns c = laws.most_components
