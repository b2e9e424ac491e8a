use Rattle.frames_laws.proofs.Laws as laws
use Rattle.frames_laws.proofs.journals.merges_are_runs.Goals as goal

pub returns : goal.returns
returns c = laws.merges_are_runs
