use Rattle.frames_laws.proofs.PortionsComputed as laws
use Rattle.frames_laws.proofs.examples.long_tag_numbers.Goals as goal

pub returns : goal.returns
returns c = laws.long_tag_numbers
