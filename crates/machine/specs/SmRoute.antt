-- Where short messages for a subscriber go (TS 29.002, 12.1, MAP-SEND-ROUTING-INFO-FOR-SM).
use Rattle.std.specs.Prelude.{ℕ, List, Bool, cond, ◌||◌, ◌==◌, Option, Some, None}
use Rattle.std.specs.List.{list_any}
use Rattle.machine.specs.declared.numbers.TheConstants.{UNKNOWN_SUBSCRIBER, ABSENT_SUBSCRIBER_SM, TELESERVICE_NOT_PROVISIONED, ALL_SHORT_MESSAGE_SERVICES, SHORT_MESSAGE_MT_PP}
use Rattle.machine.specs.Received.{Register}
use Rattle.machine.specs.State.{Subscriber}

-- An error's code, or the route: the IMSI, the MSC number and the LMSI.
pub data RouteAnswer : Type 0 where
  NoRoute : (error : ℕ) → RouteAnswer
  RouteTo : (imsi msc : List ℕ) → (lmsi : Option (List ℕ)) → RouteAnswer

-- whether the subscriber may receive short messages
abbrev pub has_short_messages : List ℕ → Bool
has_short_messages codes = list_any (λ code. (code == ALL_SHORT_MESSAGE_SERVICES) || (code == SHORT_MESSAGE_MT_PP)) codes

-- by the register, if one serves
abbrev pub route_by : List ℕ → (purged : Bool) → Option Register → RouteAnswer
route_by imsi purged None = NoRoute ABSENT_SUBSCRIBER_SM
route_by imsi purged (Some register) =
    cond purged (NoRoute ABSENT_SUBSCRIBER_SM) (RouteTo imsi register.msc register.lmsi)

-- The SM route of one record or none. The errors come in this order.
abbrev pub sm_route : List ℕ → Option Subscriber → RouteAnswer
sm_route imsi None = NoRoute UNKNOWN_SUBSCRIBER
sm_route imsi (Some subscriber) =
    cond subscriber.withdrawn (NoRoute UNKNOWN_SUBSCRIBER)
    (cond (has_short_messages subscriber.codes) (route_by imsi subscriber.purged subscriber.register)
    (NoRoute TELESERVICE_NOT_PROVISIONED))
