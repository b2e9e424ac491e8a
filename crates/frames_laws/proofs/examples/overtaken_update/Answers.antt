use Rattle.frames_laws.proofs.Computed as laws
use Rattle.frames_laws.proofs.examples.overtaken_update.Goals as goal

pub returns : goal.returns
returns c = laws.overtaken_update
