use Rattle.frames_laws.proofs.Computed as laws
use Rattle.frames_laws.proofs.examples.route_errors.Goals as goal

pub returns : goal.returns
returns c = laws.route_errors
