use Rattle.frames_laws.proofs.BoundedRuns as laws
use Rattle.frames_laws.proofs.journals.runs_stay_in_bounds.Goals as goal

pub returns : goal.returns
returns c = laws.runs_stay_in_bounds
