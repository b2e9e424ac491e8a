use Rattle.machine_laws.proofs.Merging.{union_step}
use Rattle.machine_laws.proofs.steps_are_steps_of_the_union.Goals as goal

pub returns : goal.returns
returns c = λ states n T e a sounds directories hlrs small r step. union_step states n T e a sounds directories hlrs small r step
