use Rattle.machine_laws.proofs.Answering.{begin_moves}
use Rattle.machine_laws.proofs.Tabled.{continue_moves, close_moves, expiry_moves, opening_moves}
use Rattle.machine_laws.proofs.steps_follow_the_tables.Goals as goal

pub returns-clause-begins : goal.returns-clause-begins
returns-clause-begins c = λ S from origin name components T a step. begin_moves S from origin name components T a step

pub returns-clause-continues : goal.returns-clause-continues
returns-clause-continues c = λ S from origin i portion components T a step. continue_moves S from origin i portion components T a step

pub returns-clause-ends : goal.returns-clause-ends
returns-clause-ends c = λ S from i portion components T a step. close_moves S _ i T a (λ turn turns. turns) step

pub returns-clause-aborts : goal.returns-clause-aborts
returns-clause-aborts c = λ S from i T a step. close_moves S _ i T a (λ turn turns. turns) step

pub returns-clause-expires : goal.returns-clause-expires
returns-clause-expires c = λ S n i d j v T a sound due least step. expiry_moves S n i d j v T a sound due least step

pub returns-clause-opens : goal.returns-clause-opens
returns-clause-opens c = λ S e T a i step id. opening_moves S e T a i step id
