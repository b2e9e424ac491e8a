use Rattle.frames_laws.proofs.Computed as laws
use Rattle.frames_laws.proofs.examples.whole_update.Goals as goal

pub returns : goal.returns
returns c = laws.whole_update
