use Rattle.frames_laws.proofs.Computed as laws
use Rattle.frames_laws.proofs.examples.purge.Goals as goal

pub returns : goal.returns
returns c = laws.purge
