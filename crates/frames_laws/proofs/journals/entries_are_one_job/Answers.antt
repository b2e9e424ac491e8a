use Rattle.frames_laws.proofs.AccountedEntries as laws
use Rattle.frames_laws.proofs.journals.entries_are_one_job.Goals as goal

pub returns : goal.returns
returns c = laws.entries_are_one_job
