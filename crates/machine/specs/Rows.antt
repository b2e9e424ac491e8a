-- One component as a row of the table of own invocations (Q.774).
use Rattle.std.specs.Prelude.{◌≡◌, ℕ, ℤ, List, [], ◌∷◌, Bool, true, false, cond, Option, Some, None}
use Rattle.std.specs.Ordering.{int_eq}
use Rattle.machine.specs.declared.numbers.TheConstants.{UNRECOGNIZED_INVOKE_ID}
use Rattle.machine.specs.Received.{ComponentOf, ResultLast, ResultNotLast, ReturnError, Reject}
use Rattle.machine.specs.Sent.{Rejection}
use Rattle.machine.specs.State.{Invocation}
use Rattle.machine.specs.Invocations.{Happening, GetsResultLast, GetsResultNotLast, GetsError, GetsReject, Reply, Failed, Rejected, Standing, invocation}
use Rattle.machine.specs.Effect.{Offer, rejection, reject_of, invocations_after, any_failed}

-- what a component means for the invocation with this id
abbrev pub happening : {P : Type 0} → ℤ → ComponentOf P → Option Happening
happening j (ResultLast id) = cond (int_eq id j) (Some GetsResultLast) None
happening j (ResultNotLast id) = cond (int_eq id j) (Some GetsResultNotLast) None
happening j (ReturnError id error) = cond (int_eq id j) (Some GetsError) None
happening j (Reject (Some id) side problem) = cond (int_eq id j) (Some (GetsReject side)) None
happening j _ = None

-- the state of an invocation of a dialogue: Idle, if it is not there
abbrev pub standing_of : ℤ → List Invocation → Standing
standing_of j [] = None
standing_of j (v ∷ vs) = cond (int_eq v.id j) (Some (v.was, v.deadline)) (standing_of j vs)

-- the Reject that a reply requires
abbrev pub rejected_by : ℤ → Reply → List Rejection
rejected_by j (Rejected side) = rejection (Some j) side UNRECOGNIZED_INVOKE_ID ∷ []
rejected_by j _ = []

-- whether the reply says that the operation failed
abbrev pub is_failed : Reply → Bool
is_failed Failed = true
is_failed _ = false

-- The component moves the invocation j by a row of the table. Its Reject and its failure are those of the row's reply.
pub record MovesByRow {P : Type 0} (now : ℕ) (offer : Offer) (vs : List Invocation) (c : ComponentOf P) (j : ℤ) (x : Happening) : Type 0 where
  pub reply : Reply
  pub row : invocation (standing_of j vs) x now ≡ Some (standing_of j (invocations_after now (c ∷ []) vs), reply)
  pub rejects : reject_of offer vs [] c ≡ rejected_by j reply
  pub failed : any_failed (c ∷ []) vs ≡ is_failed reply
