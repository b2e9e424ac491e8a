-- A list of events.
use Rattle.std.specs.Prelude.{◌≡◌, List, [], ◌∷◌}
use Rattle.machine.specs.Events.{Event}
use Rattle.machine.specs.State.{State}
use Rattle.machine.specs.Step.{Answer, Step}

-- The events lead, one after the other, from a state to a state, with these answers.
abbrev pub Run : State → List Event → State → List Answer → Type 0
Run S [] after [] = after ≡ S
Run S (e ∷ es) after (a ∷ answers) = (M : State) × Step S e M a × Run M es after answers
Run S _ after _ = ⊥
