-- The names of MAP's application contexts (TS 29.002, MAP-ApplicationContexts): the octets that all begin with, one octet for the
-- context and one for its version, here 3.
use Rattle.std.specs.Prelude.{ℕ, List, [], ◌∷◌, ◌++◌, Bool, cond, ◌&&◌, ◌==◌, length, take, Option, Some, None, is_some, find}
use Rattle.machine.specs.Keys.{same}
use Rattle.machine.specs.declared.numbers.TheConstants.{UPDATE_LOCATION, SEND_ROUTING_INFO_FOR_SM, PURGE_MS, MAP_AC, NETWORK_LOC_UP, LOCATION_CANCELLATION, SUBSCRIBER_DATA_MNGT, SHORT_MSG_GATEWAY, MS_PURGING, VERSION_3}
use Rattle.machine.specs.Sent.{Context, NetworkLocUp, LocationCancellation, SubscriberDataMngt, ShortMsgGateway, MsPurging}

-- a context's own octet
abbrev pub octet_of : Context → ℕ
octet_of NetworkLocUp = NETWORK_LOC_UP
octet_of LocationCancellation = LOCATION_CANCELLATION
octet_of SubscriberDataMngt = SUBSCRIBER_DATA_MNGT
octet_of ShortMsgGateway = SHORT_MSG_GATEWAY
octet_of MsPurging = MS_PURGING

-- the name without its version
abbrev pub family : Context → List ℕ
family context = MAP_AC ++ octet_of context ∷ []

-- the name of version 3
abbrev pub name_of : Context → List ℕ
name_of context = family context ++ VERSION_3 ∷ []

-- The operation that a peer may invoke in a context. If there is none, a peer may not begin in the context.
abbrev pub operation_of : Context → Option ℕ
operation_of NetworkLocUp = Some UPDATE_LOCATION
operation_of LocationCancellation = None
operation_of SubscriberDataMngt = None
operation_of ShortMsgGateway = Some SEND_ROUTING_INFO_FOR_SM
operation_of MsPurging = Some PURGE_MS

-- What a name stands for: a context, another version of one in which a peer may begin, or neither.
pub data Named : Type 0 where
  Known : Context → Named
  OtherVersion : Context → Named
  Unknown : Named

-- all contexts known here
abbrev pub contexts : List Context
contexts = NetworkLocUp ∷ LocationCancellation ∷ SubscriberDataMngt ∷ ShortMsgGateway ∷ MsPurging ∷ []

-- whether the name is that of this context in some version
abbrev pub is_version_of : List ℕ → Context → Bool
is_version_of name context = (length name == 7) && same (take 6 name) (family context)

-- another version of a context that was found
abbrev pub other_version : Option Context → Named
other_version None = Unknown
other_version (Some context) = OtherVersion context

-- the context that was found, otherwise this
abbrev pub known_or : Option Context → Named → Named
known_or None named = named
known_or (Some context) named = Known context

-- A name is looked up as it is, then as another version of a context in which a peer may begin.
unfoldable pub context_of : List ℕ → Named
context_of name =
    known_or (find (λ context. same name (name_of context)) contexts)
    (other_version (find (λ context. is_some (operation_of context) && is_version_of name context) contexts))

-- the context in which a peer may begin under this name
abbrev pub accepted_as : Named → Option Context
accepted_as (Known context) = cond (is_some (operation_of context)) (Some context) None
accepted_as _ = None

-- the same of the name itself
unfoldable pub accepted : List ℕ → Option Context
accepted name = accepted_as (context_of name)

-- The name in the AARE that refuses: for another version the accepted name, otherwise the received one (profile).
abbrev pub refused_as : List ℕ → Named → List ℕ
refused_as name (OtherVersion context) = name_of context
refused_as name _ = name

-- the same of the name itself
unfoldable pub refused_name : List ℕ → List ℕ
refused_name name = refused_as name (context_of name)
