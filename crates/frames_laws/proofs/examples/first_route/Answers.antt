use Rattle.frames_laws.proofs.Computed as laws
use Rattle.frames_laws.proofs.examples.first_route.Goals as goal

pub returns : goal.returns
returns c = laws.first_route
