use Rattle.frames_laws.proofs.Laws as laws
use Rattle.frames_laws.proofs.journals.holders_are_serving.Goals as goal

pub returns : goal.returns
returns c = laws.holders_are_serving
