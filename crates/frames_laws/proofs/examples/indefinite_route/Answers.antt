use Rattle.frames_laws.proofs.Computed as laws
use Rattle.frames_laws.proofs.examples.indefinite_route.Goals as goal

pub returns : goal.returns
returns c = laws.indefinite_route
