use Rattle.frames_laws.proofs.Laws as laws
use Rattle.frames_laws.proofs.journals.journals_grow.Goals as goal

pub returns : goal.returns
returns c = laws.journals_grow
