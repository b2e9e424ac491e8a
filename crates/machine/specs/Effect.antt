-- What a list of received components does to the invocations of one dialogue, by the places of the components in the list
-- (Q.774, component sublayer). P is the type of an Invoke's parameter.
use Rattle.std.specs.Prelude.{ℕ, ℤ, ◌<ℤ◌, ◌+◌, List, [], ◌∷◌, ◌++◌, Bool, true, false, cond, not, ◌&&◌, ◌||◌, ◌==◌, Option, Some, None, is_some}
use Rattle.std.specs.Ordering.{int_eq}
use Rattle.machine.specs.Keys.{Every}
use Rattle.machine.specs.declared.numbers.TheConstants.{DUPLICATE_INVOKE_ID, UNRECOGNIZED_OPERATION, MISTYPED_PARAMETER, INVOKE_RESOURCE_LIMITATION, UNRECOGNIZED_LINKED_ID, LINKED_RESPONSE_UNEXPECTED, UNRECOGNIZED_INVOKE_ID, REJECT_TIMER}
use Rattle.machine.specs.Received.{Code, Number, Side, General, OfInvoke, OfResult, OfError, ComponentOf, Invoke, ResultLast, ResultNotLast, ReturnError, Reject, Bad, Ignored}
use Rattle.machine.specs.Sent.{Rejection}
use Rattle.machine.specs.State.{WaitForReject, Invocation, is_sent, any_sent}
use Rattle.machine.specs.Invocations.{ends_it}

-- The invocations of a dialogue are in rising order of their ids, each once.
abbrev pub AreRising : List Invocation → Type 0
AreRising [] = Unit {0}
AreRising (v ∷ vs) = Every (λ (u : Invocation). v.id <ℤ u.id) vs × AreRising vs

-- whether the id is that of an invocation in Operation Sent
abbrev pub in_sent : ℤ → List Invocation → Bool
in_sent id [] = false
in_sent id (v ∷ vs) = cond (int_eq v.id id) (is_sent v.was) (in_sent id vs)

-- Whether the component concludes an invocation with this id that is in Operation Sent: its last result, its error, or a
-- Reject of it.
abbrev pub concludes : {P : Type 0} → ℤ → ComponentOf P → Bool
concludes j (ResultLast id) = int_eq id j
concludes j (ReturnError id error) = int_eq id j
concludes j (Reject (Some id) side problem) = int_eq id j && ends_it side
concludes j _ = false

-- the component that concludes it: the first that can
abbrev pub concluding : {P : Type 0} → ℤ → List (ComponentOf P) → Option (ComponentOf P)
concluding j [] = None
concluding j (c ∷ cs) = cond (concludes j c) (Some c) (concluding j cs)

-- whether the id is in Operation Sent, and no earlier component has concluded it
abbrev pub open_at : {P : Type 0} → List Invocation → (earlier : List (ComponentOf P)) → ℤ → Bool
open_at vs earlier j = in_sent j vs && not (is_some (concluding j earlier))

-- What the receiver of the components offers: the invoke id that the peer waits for, the operation that the peer may
-- invoke, whether the first component may start it, and whether the first component has a parameter of its type.
pub record Offer : Type 0 where
  pub open_id : Option ℤ
  pub operation : Option ℕ
  pub may_start : Bool
  pub typed : Bool

-- whether the peer waits for this id
abbrev pub is_id : Option ℤ → ℤ → Bool
is_id None j = false
is_id (Some i) j = int_eq i j

-- whether the code is that of the operation that may be invoked
abbrev pub is_operation : Option ℕ → Code → Bool
is_operation (Some a) (Number b) = a == b
is_operation _ _ = false

-- The problem of an Invoke of the operation that the peer may invoke: only a first component with a parameter of its type
-- starts it.
abbrev pub problem_of_start : Offer → (is_first : Bool) → Option ℕ
problem_of_start offer is_first =
    cond (is_first && offer.may_start) (cond offer.typed None (Some MISTYPED_PARAMETER)) (Some INVOKE_RESOURCE_LIMITATION)

-- The invoke problem of an Invoke (Q.773), by the checks in their order (profile): whether its id is the one that the peer
-- waits for; if it is linked, whether to an invocation in Operation Sent; its operation; its place; its parameter.
abbrev pub problem_of : Offer → (is_open : Bool) → (linked : Option Bool) → Code → (is_first : Bool) → Option ℕ
problem_of offer true linked operation is_first = Some DUPLICATE_INVOKE_ID
problem_of offer false (Some true) operation is_first = Some LINKED_RESPONSE_UNEXPECTED
problem_of offer false (Some false) operation is_first = Some UNRECOGNIZED_LINKED_ID
problem_of offer false None operation is_first =
    cond (is_operation offer.operation operation) (problem_of_start offer is_first) (Some UNRECOGNIZED_OPERATION)

-- whether the linked id is in Operation Sent at this place
abbrev pub linked_to : {P : Type 0} → List Invocation → (earlier : List (ComponentOf P)) → Option ℤ → Option Bool
linked_to vs earlier None = None
linked_to vs earlier (Some id) = Some (open_at vs earlier id)

-- the id, if the component is an Invoke that has no problem as the first component
abbrev pub started_by : {P : Type 0} → Offer → List Invocation → ComponentOf P → Option ℤ
started_by {P = P} offer vs (Invoke id linked operation parameter) =
    cond (is_some (problem_of offer (is_id offer.open_id id) (linked_to {P = P} vs [] linked) operation true)) None (Some id)
started_by {P = P} offer vs _ = None

-- the invoke id of what starts: the first component, if it is an Invoke without a problem
abbrev pub starts : {P : Type 0} → Offer → List Invocation → List (ComponentOf P) → Option ℤ
starts offer vs [] = None
starts offer vs (c ∷ cs) = started_by offer vs c

-- whether the id is the one that the peer waits for after these components
abbrev pub is_open_id : {P : Type 0} → Offer → List Invocation → (earlier : List (ComponentOf P)) → ℤ → Bool
is_open_id offer vs earlier id = is_id offer.open_id id || is_id (starts offer vs earlier) id

-- whether there is nothing before
abbrev pub is_empty : {X : Type 0} → List X → Bool
is_empty [] = true
is_empty (x ∷ xs) = false

-- a Reject of this problem
abbrev pub rejection : Option ℤ → Side → ℕ → Rejection
rejection id side problem = record { id = id; side = side; problem = problem }

-- an Invoke with a problem is rejected
abbrev pub reject_invoke : ℤ → Option ℕ → List Rejection
reject_invoke id None = []
reject_invoke id (Some problem) = rejection (Some id) OfInvoke problem ∷ []

-- a result or an error that answers no open invocation is rejected
abbrev pub reject_answer : ℤ → Side → (is_open : Bool) → List Rejection
reject_answer id side true = []
reject_answer id side false = rejection (Some id) side UNRECOGNIZED_INVOKE_ID ∷ []

-- The Reject, if any, of a component that follows these. A Reject is never answered.
abbrev pub reject_of : {P : Type 0} → Offer → List Invocation → (earlier : List (ComponentOf P)) → ComponentOf P
    → List Rejection
reject_of offer vs earlier (Invoke id linked operation parameter) =
    reject_invoke id (problem_of offer (is_open_id offer vs earlier id) (linked_to vs earlier linked) operation (is_empty earlier))
reject_of offer vs earlier (ResultLast id) = reject_answer id OfResult (open_at vs earlier id)
reject_of offer vs earlier (ResultNotLast id) = reject_answer id OfResult (open_at vs earlier id)
reject_of offer vs earlier (ReturnError id error) = reject_answer id OfError (open_at vs earlier id)
reject_of offer vs earlier (Reject id side problem) = []
reject_of offer vs earlier (Bad id problem) = rejection id General problem ∷ []
reject_of offer vs earlier Ignored = []

-- the Rejects of those that follow these, in order
abbrev pub rejects_after : {P : Type 0} → Offer → List Invocation → (earlier : List (ComponentOf P))
    → List (ComponentOf P) → List Rejection
rejects_after offer vs earlier [] = []
rejects_after offer vs earlier (c ∷ cs) =
    reject_of offer vs earlier c ++ rejects_after offer vs (earlier ++ c ∷ []) cs

-- an invocation that is concluded: a Reject makes it Idle, a result or an error takes it to Wait for Reject
abbrev pub concluded_by : {P : Type 0} → ℕ → Invocation → Option (ComponentOf P) → List Invocation
concluded_by now v None = v ∷ []
concluded_by now v (Some (Reject id side problem)) = []
concluded_by now v (Some c) = record { id = v.id; was = WaitForReject; deadline = now + REJECT_TIMER } ∷ []

-- an invocation after the components: one in Wait for Reject stays as it is
abbrev pub concluded : {P : Type 0} → ℕ → List (ComponentOf P) → Invocation → List Invocation
concluded now cs v = cond (is_sent v.was) (concluded_by now v (concluding v.id cs)) (v ∷ [])

-- the invocations after the components
abbrev pub invocations_after : {P : Type 0} → ℕ → List (ComponentOf P) → List Invocation → List Invocation
invocations_after now cs [] = []
invocations_after now cs (v ∷ vs) = concluded now cs v ++ invocations_after now cs vs

-- whether the conclusion is a failure: an error or a Reject
abbrev pub is_failure : {P : Type 0} → Option (ComponentOf P) → Bool
is_failure None = false
is_failure (Some (ResultLast id)) = false
is_failure (Some c) = true

-- whether an invocation in Operation Sent is concluded by an error or a Reject
abbrev pub any_failed : {P : Type 0} → List (ComponentOf P) → List Invocation → Bool
any_failed cs [] = false
any_failed cs (v ∷ vs) = cond (is_sent v.was && is_failure (concluding v.id cs)) true (any_failed cs vs)

-- the state of a dialogue's invocations after the components
pub data Conclusion : Type 0 where
  HasFailed : Conclusion
  HasSucceeded : Conclusion
  GoesOn : Conclusion

-- Failure has precedence; otherwise the dialogue goes on while an invocation waits for its answer.
unfoldable pub conclusion_of : (failed still_sent : Bool) → Conclusion
conclusion_of true still_sent = HasFailed
conclusion_of false true = GoesOn
conclusion_of false false = HasSucceeded

-- The Rejects to be sent, the invoke id of what started, the invocations after, and whether they failed, succeeded or go
-- on: they failed if one did, and succeeded if none is left in Operation Sent.
pub record Effect : Type 0 where
  pub rejects : List Rejection
  pub started : Option ℤ
  pub invocations : List Invocation
  pub conclusion : Conclusion

-- the effect of a list of components at this clock
unfoldable pub effect : {P : Type 0} → ℕ → Offer → List Invocation → List (ComponentOf P) → Effect
effect now offer vs cs = record {
  rejects = rejects_after offer vs [] cs;
  started = starts offer vs cs;
  invocations = invocations_after now cs vs;
  conclusion = conclusion_of (any_failed cs vs) (any_sent (invocations_after now cs vs));
}
