-- The deadlines of the own invocations.
use Rattle.std.specs.Prelude.{◌≡◌, ℕ, ℤ, List, Some}
use Rattle.machine.specs.State.{Invocation}
use Rattle.machine.specs.Turns.{invocation_of}
use Rattle.csl.specs.Tables.{InvocationLists, invocations_at}

-- It is the deadline of an invocation.
pub record IsTimerOf (lists : InvocationLists) (deadline : ℕ) : Type 0 where
  pub id : List ℕ
  pub invoke : ℤ
  pub own : Invocation
  pub stands : invocation_of invoke (invocations_at lists id) ≡ Some own
  pub deadline_is : own.deadline ≡ deadline
