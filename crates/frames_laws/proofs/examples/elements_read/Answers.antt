use Rattle.frames_laws.proofs.TagsComputed as laws
use Rattle.frames_laws.proofs.examples.elements_read.Goals as goal

pub returns : goal.returns
returns c = laws.elements_read
