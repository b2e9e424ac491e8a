use Rattle.frames_laws.proofs.IdentitiesComputed as laws
use Rattle.frames_laws.proofs.examples.digit_octets.Goals as goal

pub returns : goal.returns
returns c = laws.digit_octets
