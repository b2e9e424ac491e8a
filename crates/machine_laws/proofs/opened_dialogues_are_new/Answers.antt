use Rattle.machine_laws.proofs.Opened.{opened_taken, taken_free}
use Rattle.machine_laws.proofs.opened_dialogues_are_new.Goals as goal

pub returns-clause-opened : goal.returns-clause-opened
returns-clause-opened c = λ S e T a i d step none there. opened_taken S e T a i d step none there

pub returns-clause-taken : goal.returns-clause-taken
returns-clause-taken c = λ S e T a i step id. taken_free S e T a i step id
