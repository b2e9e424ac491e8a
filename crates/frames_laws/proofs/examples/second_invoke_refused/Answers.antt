use Rattle.frames_laws.proofs.Computed as laws
use Rattle.frames_laws.proofs.examples.second_invoke_refused.Goals as goal

pub returns : goal.returns
returns c = laws.second_invoke_refused
