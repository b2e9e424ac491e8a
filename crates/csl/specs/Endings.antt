-- How a component concludes an invocation in Operation Sent (Q.774).
use Rattle.std.specs.Prelude.{ℕ, ◌+◌, ℤ, List, [], ◌∷◌, Bool, true, false, cond, Option, Some, None}
use Rattle.std.specs.Ordering.{int_eq}
use Rattle.machine.specs.declared.numbers.TheConstants.{REJECT_TIMER}
use Rattle.machine.specs.Received.{ComponentOf, ResultLast, ReturnError, Reject}
use Rattle.machine.specs.Invocations.{ends_it}
use Rattle.machine.specs.State.{Invocation, WaitForReject}
use Rattle.csl.specs.declared.ending.How.{How}
use Rattle.csl.specs.declared.ending.How.TheVariants.{Succeeds, Fails, IsRejected}
use Rattle.csl.specs.declared.ending.Ending.{Ending}

-- Whether an invocation has this id.
abbrev pub has_id : ℤ → Invocation → Bool
has_id id v = int_eq v.id id

-- The ending that a component causes for the invocation with its id.
abbrev pub ending : {P : Type 0} → ComponentOf P → Option Ending
ending (ResultLast id) = Some (record { id = id; how = Succeeds })
ending (ReturnError id error) = Some (record { id = id; how = Fails })
ending (Reject (Some id) side problem) = cond (ends_it side) (Some (record { id = id; how = IsRejected })) None
ending _ = None

-- An invocation after its ending: Wait for Reject if it was answered, Idle if it was rejected.
abbrev pub after_ending : ℕ → How → Invocation → List Invocation
after_ending now IsRejected v = []
after_ending now Fails v = record { id = v.id; was = WaitForReject; deadline = now + REJECT_TIMER } ∷ []
after_ending now Succeeds v = record { id = v.id; was = WaitForReject; deadline = now + REJECT_TIMER } ∷ []

abbrev pub is_failing : How → Bool
is_failing Succeeds = false
is_failing Fails = true
is_failing IsRejected = true
