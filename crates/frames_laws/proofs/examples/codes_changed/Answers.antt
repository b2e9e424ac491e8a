use Rattle.frames_laws.proofs.Computed as laws
use Rattle.frames_laws.proofs.examples.codes_changed.Goals as goal

pub returns : goal.returns
returns c = laws.codes_changed
