use Rattle.frames_laws.proofs.Computed as laws
use Rattle.frames_laws.proofs.examples.optional_elements.Goals as goal

pub returns : goal.returns
returns c = laws.optional_elements
