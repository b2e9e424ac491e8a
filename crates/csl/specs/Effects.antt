-- The effect of received components (Q.774, component sublayer), as the code returns it.
use Rattle.std.specs.Prelude.{◌≡◌, ℤ, List, [], ◌∷◌, map, Bool, not, ◌&&◌, ◌||◌, Option, Some, None}
use Rattle.machine.specs.Received.{OfResult, OfError, General, ComponentOf, Invoke, ResultLast, ResultNotLast, ReturnError, Reject, Bad, Ignored}
use Rattle.machine.specs.Sent as sent
use Rattle.machine.specs.State.{Invocation}
use Rattle.machine.specs.Effect as effect
use Rattle.machine.specs.Effect.{in_sent, is_id, problem_of, reject_invoke, reject_answer}
use Rattle.q773_comp.specs.Seen.{rejection}
use Rattle.csl.specs.declared.offer.Offer.{Offer}
use Rattle.csl.specs.declared.offer.Conclusion.{Conclusion}
use Rattle.csl.specs.declared.offer.Conclusion.TheVariants.{HasFailed, HasSucceeded, GoesOn}
use Rattle.csl.specs.declared.offer.Effect.{Effect}

abbrev pub offered : Offer → effect.Offer
offered o = record { open_id = o.open_id; operation = o.operation; may_start = o.may_start; typed = o.typed }

abbrev pub concluded : Conclusion → effect.Conclusion
concluded HasFailed = effect.HasFailed
concluded HasSucceeded = effect.HasSucceeded
concluded GoesOn = effect.GoesOn

-- The answer is the effect: its Rejects in order, what started, the invocations after, and the conclusion.
pub record IsEffect (answer : Effect) (whole : effect.Effect) : Type 0 where
  pub rejects : map rejection answer.rejects.items ≡ whole.rejects
  pub started : answer.started ≡ whole.started
  pub left : answer.left ≡ whole.invocations
  pub conclusion : concluded answer.conclusion ≡ whole.conclusion

-- ---- one component, with the invocations as those before it leave them

-- Whether the linked id is that of an invocation in Operation Sent.
abbrev pub linked_now : List Invocation → Option ℤ → Option Bool
linked_now vs None = None
linked_now vs (Some id) = Some (in_sent id vs)

-- Whether this is the id of an open Invoke of the peer.
abbrev pub is_open_now : effect.Offer → Option ℤ → Bool → ℤ → Bool
is_open_now offer started is_first id = is_id offer.open_id id || (not is_first && is_id started id)

-- The Reject of a component, if any.
abbrev pub reject_now : {P : Type 0} → effect.Offer → List Invocation → Option ℤ → Bool → ComponentOf P → List sent.Rejection
reject_now offer vs started is_first (Invoke id linked operation parameter) =
    reject_invoke id (problem_of offer (is_open_now offer started is_first id) (linked_now vs linked) operation is_first)
reject_now offer vs started is_first (ResultLast id) = reject_answer id OfResult (in_sent id vs)
reject_now offer vs started is_first (ResultNotLast id) = reject_answer id OfResult (in_sent id vs)
reject_now offer vs started is_first (ReturnError id error) = reject_answer id OfError (in_sent id vs)
reject_now offer vs started is_first (Reject id side problem) = []
reject_now offer vs started is_first (Bad id problem) = effect.rejection id General problem ∷ []
reject_now offer vs started is_first Ignored = []
