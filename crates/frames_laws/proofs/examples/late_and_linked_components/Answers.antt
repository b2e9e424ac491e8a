use Rattle.frames_laws.proofs.Computed as laws
use Rattle.frames_laws.proofs.examples.late_and_linked_components.Goals as goal

pub returns : goal.returns
returns c = laws.late_and_linked_components
