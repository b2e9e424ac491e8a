use Rattle.machine_laws.proofs.Isolation.{step_outside}
use Rattle.machine_laws.proofs.others_leave_a_subscriber.Goals as goal

pub returns : goal.returns
returns c = λ x S e T a sound step other. step_outside x S e T a sound step other
