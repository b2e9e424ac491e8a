use Rattle.machine.specs.Routing.{route}
use Rattle.machine_laws.proofs.Merging.{OfPart, InWhole, step_of_part, step_in_whole}
use Rattle.machine_laws.proofs.steps_stay_in_their_part.Goals as goal

pub returns-clause-within : goal.returns-clause-within
returns-clause-within c = λ S e T a sound step. let h : OfPart S T e a (route S.directory e) = step_of_part S T e a sound step in (h.inside, h.outside)

pub returns-clause-of_whole : goal.returns-clause-of_whole
returns-clause-of_whole c = λ S P e a n sound r step. let h : InWhole S e a n P = step_in_whole S P e a n sound r step in
    (h.state, h.step, h.is_part, h.outside)
