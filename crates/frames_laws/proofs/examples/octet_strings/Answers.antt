use Rattle.frames_laws.proofs.IdentitiesComputed as laws
use Rattle.frames_laws.proofs.examples.octet_strings.Goals as goal

pub returns : goal.returns
returns c = laws.octet_strings
