use Rattle.machine_laws.proofs.Growing.{legal_begins, legal_push}
use Rattle.machine_laws.proofs.journals_grow_by_steps.Goals as goal

pub returns-clause-empty : goal.returns-clause-empty
returns-clause-empty c = λ n S small sound p. legal_begins n S small sound p

pub returns-clause-push : goal.returns-clause-push
returns-clause-push c = λ n base S T journal e a legal r step. legal_push n base S T journal e a legal r step
