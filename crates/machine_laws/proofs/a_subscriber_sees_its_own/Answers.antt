use Rattle.machine_laws.proofs.Steps.{step_sound}
use Rattle.machine_laws.proofs.Isolation.{OwnStep, step_inside}
use Rattle.machine_laws.proofs.a_subscriber_sees_its_own.Goals as goal

pub returns : goal.returns
returns c = λ x S T e S' a sound sound' agree step own_one not_away. let h : OwnStep x T S' e a = step_inside x S T e S' a sound agree step own_one not_away in
    (h.state, h.step, step_sound T e h.state a sound' h.step, h.agree)
