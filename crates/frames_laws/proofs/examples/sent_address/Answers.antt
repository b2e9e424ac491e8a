use Rattle.frames_laws.proofs.PortionsComputed as laws
use Rattle.frames_laws.proofs.examples.sent_address.Goals as goal

pub returns : goal.returns
returns c = laws.sent_address
