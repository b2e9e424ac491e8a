-- A run that handled all events met no change without room.
use Rattle.std.specs.Prelude.{◌≡◌, List, ◌∷◌, ◌++◌}
use Rattle.machine.specs.Events.{Event}
use Rattle.machine.specs.State.{State}
use Rattle.machine.specs.Step.{HasNoRoom}
use Rattle.frames.specs.Octets.{RawEvent, RawOut, IsEvent}
use Rattle.wholenode.specs.Handling.{IsRun}

-- The events before this one lead to a state, and from there the run goes on with it; in that state it is no change without room.
pub record HasRoomThere (S : State) (handled : List RawEvent) (raw : RawEvent) (rest : List RawEvent) (sent : List (List RawOut)) (T : State) : Type 0 where
  pub between : State
  pub before : List (List RawOut)
  pub behind : List (List RawOut)
  pub sent_are : sent ≡ before ++ behind
  pub to : IsRun S handled before between
  pub from : IsRun between (raw ∷ rest) behind T
  pub room : (e : Event) → IsEvent raw e → HasNoRoom between e → ⊥

-- This holds for each event of a run.
abbrev pub RunsHaveRoom : Type 0
RunsHaveRoom = (S T : State) (handled : List RawEvent) (raw : RawEvent) (rest : List RawEvent) (sent : List (List RawOut))
    → IsRun S (handled ++ raw ∷ rest) sent T → HasRoomThere S handled raw rest sent T
