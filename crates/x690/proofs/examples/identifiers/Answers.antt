use Rattle.x690.proofs.Computed as laws
use Rattle.x690.proofs.examples.identifiers.Goals as goal

pub returns : goal.returns
returns c = laws.identifiers
