use Rattle.frames_laws.proofs.Laws as laws
use Rattle.frames_laws.proofs.journals.own_entries_are_legal.Goals as goal

pub returns : goal.returns
returns c = laws.own_entries_are_legal
