use Rattle.frames_laws.proofs.Laws as laws
use Rattle.frames_laws.proofs.journals.chains_are_journals.Goals as goal

pub returns : goal.returns
returns c = laws.chains_are_journals
