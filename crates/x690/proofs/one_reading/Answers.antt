use Rattle.x690.proofs.Readings as laws
use Rattle.x690.proofs.one_reading.Goals as goal

pub returns : goal.returns
returns c = laws.one_reading
