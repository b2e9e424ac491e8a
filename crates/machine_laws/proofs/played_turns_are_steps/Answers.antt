use Rattle.std.proofs.Common.{refl}
use Rattle.machine.specs.Step.{Taken}
use Rattle.machine_laws.proofs.played_turns_are_steps.Goals as goal

pub returns : goal.returns
returns c = λ S e turn new turns id room. Taken turn new turns (record {
  opens = λ t. id;
  room = λ w. room w.full;
  state = refl;
  id = refl;
  subject = refl;
  sent = refl;
})
