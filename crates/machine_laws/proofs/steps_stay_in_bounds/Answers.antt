use Rattle.machine_laws.proofs.Within.{step_within, run_within, opening_within, part_within, union_within}
use Rattle.machine_laws.proofs.steps_stay_in_bounds.Goals as goal

pub returns-clause-step : goal.returns-clause-step
returns-clause-step c = λ S e T a bounds h step. step_within S e T a bounds h step

pub returns-clause-run : goal.returns-clause-run
returns-clause-run c = λ S events T answers bounds h run. run_within events S T answers bounds h run

pub returns-clause-opening_state : goal.returns-clause-opening_state
returns-clause-opening_state c = λ records directory hlr h digits. opening_within records directory hlr h digits

pub returns-clause-parts : goal.returns-clause-parts
returns-clause-parts c = λ S n bounds. part_within S n bounds

pub returns-clause-unions : goal.returns-clause-unions
returns-clause-unions c = λ states bounds. union_within states bounds
