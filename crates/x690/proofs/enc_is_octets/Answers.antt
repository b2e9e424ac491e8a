use Rattle.x690.proofs.Encoding as laws
use Rattle.x690.proofs.enc_is_octets.Goals as goal

pub returns : goal.returns
returns c = laws.enc_is_octets
