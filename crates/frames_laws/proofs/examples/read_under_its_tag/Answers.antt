use Rattle.frames_laws.proofs.TreesComputed as laws
use Rattle.frames_laws.proofs.examples.read_under_its_tag.Goals as goal

pub returns : goal.returns
returns c = laws.read_under_its_tag
