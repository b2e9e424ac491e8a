use Rattle.x690.proofs.Encoding as laws
use Rattle.x690.proofs.fewest_octets.Goals as goal

pub returns : goal.returns
returns c = laws.fewest_octets
