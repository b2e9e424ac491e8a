use Rattle.frames_laws.proofs.IdentitiesComputed as laws
use Rattle.frames_laws.proofs.examples.imsi_octets.Goals as goal

pub returns : goal.returns
returns c = laws.imsi_octets
