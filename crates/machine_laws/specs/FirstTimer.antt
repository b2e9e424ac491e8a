-- The timer that expires first.
use Rattle.std.specs.Prelude.{ℕ, ℤ, ◌≤◌, List}
use Rattle.machine.specs.State.{Invocation, Dialogue, State}
use Rattle.machine.specs.Turns.{IsDue}

-- A timer of the open dialogue i of shard n is due, and its deadline is not after t.
pub record HasFirstTimer (S : State) (n : ℕ) (i : List ℕ) (t : ℕ) : Type 0 where
  pub dialogue : Dialogue
  pub invoke : ℤ
  pub timer : Invocation
  pub due : IsDue S n i dialogue invoke timer
  pub first : timer.deadline ≤ t
