use Rattle.machine_laws.proofs.Progress.{each_event_goes}
use Rattle.machine_laws.proofs.events_have_steps.Goals as goal

pub returns : goal.returns
returns c = λ S e sound. each_event_goes S e sound
