use Rattle.frames_laws.proofs.TreesComputed as laws
use Rattle.frames_laws.proofs.examples.components_read.Goals as goal

pub returns : goal.returns
returns c = laws.components_read
