use Rattle.frames_laws.proofs.Computed as laws
use Rattle.frames_laws.proofs.examples.repeated_cancel.Goals as goal

pub returns : goal.returns
returns c = laws.repeated_cancel
