use Rattle.machine_laws.proofs.Refusing.{room_step}
use Rattle.machine_laws.proofs.changes_without_room_have_no_step.Goals as goal

pub returns : goal.returns
returns c = λ S e T a none step. room_step S e T a none step
