use Rattle.machine_laws.proofs.Steps.{step_sound}
use Rattle.machine_laws.proofs.steps_keep_sound.Goals as goal

pub returns : goal.returns
returns c = λ S e T a sound step. step_sound S e T a sound step
