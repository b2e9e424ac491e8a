use Rattle.frames_laws.proofs.TagsComputed as laws
use Rattle.frames_laws.proofs.examples.tag_octets.Goals as goal

pub returns : goal.returns
returns c = laws.tag_octets
