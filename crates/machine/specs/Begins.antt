-- A received Begin and the procedure that it starts: location updating and Purge MS (TS 23.012), and routing of short
-- messages (TS 29.002, 12.1).
use Rattle.std.specs.Prelude.{ℕ, ℤ, List, [], ◌∷◌, Bool, true, false, cond, Option, Some, None, is_some}
use Rattle.std.specs.List.{list_any}
use Rattle.machine.specs.Keys.{same, is_prefix}
use Rattle.machine.specs.declared.numbers.TheConstants.{UNKNOWN_SUBSCRIBER, ROAMING_NOT_ALLOWED, DATA_MISSING, UNEXPECTED_DATA_VALUE}
use Rattle.machine.specs.Received.{Register, Argument, BadValue, Update, Purge, Route, Typed, Component, Invoke}
use Rattle.machine.specs.Sent.{Context, Rejection, SentComponent, PurgeResult, RouteResult, SentError, NoCause, Refusing, SentContinue, SentEnd, SentAbort, Out}
use Rattle.machine.specs.Contexts.{accepted, refused_name, operation_of}
use Rattle.machine.specs.State.{Subscriber, Updates, Local}
use Rattle.machine.specs.Effect.{Offer, effect}
use Rattle.machine.specs.Outcome.{Outcome, send, unchanged, inserts_invoked, inserts}
use Rattle.machine.specs.SmRoute.{RouteAnswer, NoRoute, RouteTo, sm_route}

-- the argument of the first component, if it is an Invoke with a parameter of its type
abbrev pub argument_of : Component → Option Argument
argument_of (Invoke id linked operation (Some (Typed argument))) = Some argument
argument_of _ = None

-- the argument of the first component of a Begin; only the first can start a procedure
abbrev pub first_argument : List Component → Option Argument
first_argument [] = None
first_argument (c ∷ cs) = argument_of c

-- Where a Begin came from: its source, its originating transaction id and its context; and the Rejects of its components.
pub record Initiator : Type 0 where
  pub from : List ℕ
  pub origin : List ℕ
  pub context : Context
  pub rejects : List Rejection

-- the End that answers a Begin
abbrev pub end_of_begin : Initiator → List SentComponent → List Out
end_of_begin initiator components = send initiator.from (SentEnd initiator.origin (Some initiator.context) initiator.rejects components)

-- updateLocation (TS 29.002, 8.1.2, MAP_UPDATE_LOCATION; TS 23.012, Location updating)

-- whether the subscriber may roam at this VLR: one of the prefixes of the record is a prefix of its digits, or the
-- record allows all
abbrev pub is_allowed : (roam : Option (List (List ℕ))) → (vlr : List ℕ) → Bool
is_allowed None vlr = true
is_allowed (Some prefixes) vlr = list_any (λ prefix. is_prefix prefix vlr) prefixes

-- The update begins: a dialogue opens and becomes the current update in place of any other, and one Continue carries the
-- subscriber data.
abbrev pub update_opened : Local → Initiator → (invoke : ℤ) → Register → Subscriber → (new : List ℕ) → Outcome
update_opened here initiator invoke register subscriber new = record {
  after = Some (record subscriber { current = Some new });
  stays = None;
  opens = Some (record {
    subscriber = here.imsi;
    transaction = record { peer = initiator.from; remote = Some initiator.origin };
    invocations = inserts_invoked here.clock subscriber.codes;
    kind = Updates register invoke;
  });
  sent =
      send initiator.from (SentContinue new initiator.origin (Some initiator.context) initiator.rejects (inserts None subscriber.msisdn subscriber.codes));
}

-- An unknown subscriber, or a VLR where the subscriber may not roam, is answered with an error.
abbrev pub update_begins : Local → Initiator → (invoke : ℤ) → Register → Option Subscriber → (new : List ℕ) → Outcome
update_begins here initiator invoke register None new =
    unchanged here (end_of_begin initiator (SentError invoke UNKNOWN_SUBSCRIBER ∷ []))
update_begins here initiator invoke register (Some subscriber) new =
    cond subscriber.withdrawn (unchanged here (end_of_begin initiator (SentError invoke UNKNOWN_SUBSCRIBER ∷ [])))
    (cond (is_allowed subscriber.roam register.vlr) (update_opened here initiator invoke register subscriber new)
    (unchanged here (end_of_begin initiator (SentError invoke ROAMING_NOT_ALLOWED ∷ []))))

-- purgeMS (TS 29.002, 8.1.6, MAP_PURGE_MS; TS 23.012, Purge MS)

-- If the stored register has the same digits, the record is purged and the result has freezeTMSI. Otherwise the result has no
-- parameter, and nothing changes.
abbrev pub purge_at : Local → Initiator → (invoke : ℤ) → Subscriber → (vlr : List ℕ) → Option Register → Outcome
purge_at here initiator invoke subscriber vlr None = unchanged here (end_of_begin initiator (PurgeResult invoke false ∷ []))
purge_at here initiator invoke subscriber vlr (Some register) =
    cond (same register.vlr vlr)
    (record {
      after = Some (record subscriber { purged = true });
      stays = None;
      opens = None;
      sent = end_of_begin initiator (PurgeResult invoke true ∷ []);
    })
    (unchanged here (end_of_begin initiator (PurgeResult invoke false ∷ [])))

-- Without a VLR number the error is dataMissing, even for an unknown subscriber.
abbrev pub purge : Local → Initiator → (invoke : ℤ) → (vlr : Option (List ℕ)) → Option Subscriber → Outcome
purge here initiator invoke None subscriber = unchanged here (end_of_begin initiator (SentError invoke DATA_MISSING ∷ []))
purge here initiator invoke (Some vlr) None = unchanged here (end_of_begin initiator (SentError invoke UNKNOWN_SUBSCRIBER ∷ []))
purge here initiator invoke (Some vlr) (Some subscriber) =
    cond subscriber.withdrawn (unchanged here (end_of_begin initiator (SentError invoke UNKNOWN_SUBSCRIBER ∷ [])))
    (purge_at here initiator invoke subscriber vlr subscriber.register)

-- sendRoutingInfoForSM (TS 29.002, 12.1, MAP-SEND-ROUTING-INFO-FOR-SM)
abbrev pub route_component : (invoke : ℤ) → RouteAnswer → SentComponent
route_component invoke (NoRoute error) = SentError invoke error
route_component invoke (RouteTo imsi msc lmsi) = RouteResult invoke imsi msc lmsi

-- The procedure of an Invoke that started. The subscriber is the one that the argument names.
abbrev pub procedure : Local → Initiator → (invoke : ℤ) → Argument → (new : List ℕ) → Outcome
procedure here initiator invoke BadValue new = unchanged here (end_of_begin initiator (SentError invoke UNEXPECTED_DATA_VALUE ∷ []))
procedure here initiator invoke (Update imsi register) new = update_begins here initiator invoke register here.record_of new
procedure here initiator invoke (Purge imsi vlr) new = purge here initiator invoke vlr here.record_of
procedure here initiator invoke (Route msisdn) new =
    unchanged here (end_of_begin initiator (route_component invoke (sm_route here.imsi here.record_of) ∷ []))

-- If no Invoke started a procedure, the End carries only the Rejects. One that did has an argument.
abbrev pub begun : Local → Initiator → (started : Option ℤ) → Option Argument → (new : List ℕ) → Outcome
begun here initiator (Some invoke) (Some argument) new = procedure here initiator invoke argument new
begun here initiator _ _ new = unchanged here (end_of_begin initiator [])

-- what a Begin in this context may start
abbrev pub offer_in : Context → List Component → Offer
offer_in context components = record {
  open_id = None;
  operation = operation_of context;
  may_start = true;
  typed = is_some (first_argument components);
}

-- a Begin in an accepted context
abbrev pub begins_in : Local → (from origin : List ℕ) → Context → List Component → (new : List ℕ) → Outcome
begins_in here from origin context [] new = unchanged here (send from (SentAbort origin NoCause))
begins_in here from origin context (c ∷ cs) new =
    let did = effect here.clock (offer_in context (c ∷ cs)) [] (c ∷ cs) in
    begun here (record { from = from; origin = origin; context = context; rejects = did.rejects }) did.started
    (first_argument (c ∷ cs)) new

-- a Begin with this context name: its context is accepted, or an Abort refuses it
abbrev pub begins_named : Local → (from origin name : List ℕ) → Option Context → List Component → (new : List ℕ) → Outcome
begins_named here from origin name None components new =
    unchanged here (send from (SentAbort origin (Refusing (refused_name name))))
begins_named here from origin name (Some context) components new = begins_in here from origin context components new

-- A Begin. It is aborted if it has no dialogue portion, if its context is not accepted, or if it has no component, checked in
-- this order (profile); then nothing else is sent.
abbrev pub begins : Local → (from origin : List ℕ) → (name : Option (List ℕ)) → List Component → (new : List ℕ) → Outcome
begins here from origin None components new = unchanged here (send from (SentAbort origin NoCause))
begins here from origin (Some name) components new = begins_named here from origin name (accepted name) components new
