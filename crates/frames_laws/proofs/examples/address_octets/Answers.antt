use Rattle.frames_laws.proofs.IdentitiesComputed as laws
use Rattle.frames_laws.proofs.examples.address_octets.Goals as goal

pub returns : goal.returns
returns c = laws.address_octets
