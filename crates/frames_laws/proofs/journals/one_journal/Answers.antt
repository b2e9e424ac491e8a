use Rattle.frames_laws.proofs.Laws as laws
use Rattle.frames_laws.proofs.journals.one_journal.Goals as goal

pub returns : goal.returns
returns c = laws.one_journal
