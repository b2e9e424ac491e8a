use Rattle.frames_laws.proofs.Computed as laws
use Rattle.frames_laws.proofs.examples.two_inserts.Goals as goal

pub returns : goal.returns
returns c = laws.two_inserts
