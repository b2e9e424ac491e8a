use Rattle.frames_laws.proofs.Computed as laws
use Rattle.frames_laws.proofs.examples.result_of_unknown_invoke.Goals as goal

pub returns : goal.returns
returns c = laws.result_of_unknown_invoke
