-- The table of one own invocation (Q.774, invocation state machine for operations of class 1 of Q.771); `None` is Idle.
use Rattle.std.specs.Prelude.{ℕ, ◌+◌, Bool, true, false, cond, Option, Some, None}
use Rattle.machine.specs.declared.numbers.TheConstants.{INVOCATION_TIMER, REJECT_TIMER}
use Rattle.machine.specs.Received.{Side, General, OfInvoke, OfResult, OfError}
use Rattle.machine.specs.State.{Was, OperationSent, WaitForReject}

-- what happens to an invocation: it is invoked, a component with its id is received, its timer expires, or its dialogue ends
pub data Happening : Type 0 where
  Invoked : Happening
  GetsResultLast : Happening
  GetsResultNotLast : Happening
  GetsError : Happening
  GetsReject : Side → Happening
  TimesOut : Happening
  DialogueEnds : Happening

-- The reply: nothing, success or failure of the operation, or a Reject of the received component with the problem
-- unrecognizedInvokeID.
pub data Reply : Type 0 where
  NoReply : Reply
  Succeeded : Reply
  Failed : Reply
  Rejected : Side → Reply

-- the state of an invocation with its deadline
abbrev pub Standing : Type 0
Standing = Option (Was × ℕ)

-- in Operation Sent from now on
abbrev pub sent_at : ℕ → Standing
sent_at now = Some (OperationSent, now + INVOCATION_TIMER)

-- in Wait for Reject from now on
abbrev pub waiting_at : ℕ → Standing
waiting_at now = Some (WaitForReject, now + REJECT_TIMER)

-- whether a Reject with a problem of this kind rejects the Invoke: a general problem or an invoke problem
abbrev pub ends_it : Side → Bool
ends_it General = true
ends_it OfInvoke = true
ends_it OfResult = false
ends_it OfError = false

-- a Reject in Operation Sent: it ends the invocation, or leaves it as it is
abbrev pub rejected_at : Side → ℕ → Standing × Reply
rejected_at side deadline = cond (ends_it side) (None, Failed) (Some (OperationSent, deadline), NoReply)

-- The table: the state before, what happens and the clock determine the state after and the reply; `None` never happens.
-- The profile's choice: a late result or error is rejected in Wait for Reject too, and the end of a dialogue in which nothing
-- waits (profile).
abbrev pub invocation : Standing → Happening → ℕ → Option (Standing × Reply)
invocation None Invoked now = Some (sent_at now, NoReply)
invocation None GetsResultLast now = Some (None, Rejected OfResult)
invocation None GetsResultNotLast now = Some (None, Rejected OfResult)
invocation None GetsError now = Some (None, Rejected OfError)
invocation None (GetsReject side) now = Some (None, NoReply)
invocation None TimesOut now = None
invocation None DialogueEnds now = Some (None, NoReply)
invocation (Some (OperationSent, t)) Invoked now = None
invocation (Some (OperationSent, t)) GetsResultLast now = Some (waiting_at now, Succeeded)
invocation (Some (OperationSent, t)) GetsResultNotLast now = Some (Some (OperationSent, t), NoReply)
invocation (Some (OperationSent, t)) GetsError now = Some (waiting_at now, Failed)
invocation (Some (OperationSent, t)) (GetsReject side) now = Some (rejected_at side t)
invocation (Some (OperationSent, t)) TimesOut now = Some (None, Failed)
invocation (Some (OperationSent, t)) DialogueEnds now = Some (None, NoReply)
invocation (Some (WaitForReject, t)) Invoked now = None
invocation (Some (WaitForReject, t)) GetsResultLast now = Some (Some (WaitForReject, t), Rejected OfResult)
invocation (Some (WaitForReject, t)) GetsResultNotLast now = Some (Some (WaitForReject, t), Rejected OfResult)
invocation (Some (WaitForReject, t)) GetsError now = Some (Some (WaitForReject, t), Rejected OfError)
invocation (Some (WaitForReject, t)) (GetsReject side) now = Some (Some (WaitForReject, t), NoReply)
invocation (Some (WaitForReject, t)) TimesOut now = Some (None, NoReply)
invocation (Some (WaitForReject, t)) DialogueEnds now = Some (None, NoReply)
