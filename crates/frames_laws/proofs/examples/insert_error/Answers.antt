use Rattle.frames_laws.proofs.Computed as laws
use Rattle.frames_laws.proofs.examples.insert_error.Goals as goal

pub returns : goal.returns
returns c = laws.insert_error
