-- The shard that an event is for (profile).
use Rattle.std.specs.Prelude.{ℕ, List, cond, ◌&&◌, nat_lt, ◌==◌, length, Option, Some, None}
use Rattle.machine.specs.Keys.{shard_of, shard_of_id}
use Rattle.machine.specs.declared.numbers.TheConstants.{SHARDS}
use Rattle.machine.specs.Received.{Argument, Update, Purge, Route, Component, Message, Begin, Continue, End, Abort, Verdict, Read}
use Rattle.machine.specs.Events.{Event, Frame, Clock, Expire, Operator}
use Rattle.machine.specs.Begins.{first_argument}

-- the subscriber that an argument names; an SM route names it by MSISDN
abbrev pub named_in : (directory : List ℕ → Option (List ℕ)) → Option Argument → Option (List ℕ)
named_in directory (Some (Update imsi register)) = Some imsi
named_in directory (Some (Purge imsi vlr)) = Some imsi
named_in directory (Some (Route msisdn)) = directory msisdn
named_in directory _ = None

-- The subscriber that a Begin names, by its first component alone. Its context is not considered.
abbrev pub subject_of_begin : (directory : List ℕ → Option (List ℕ)) → List Component → Option (List ℕ)
subject_of_begin directory components = named_in directory (first_argument components)

-- without a subscriber, shard 0
abbrev pub shard_of_subject : Option (List ℕ) → ℕ
shard_of_subject None = 0
shard_of_subject (Some imsi) = shard_of imsi

-- the shard of a destination id, which may not have the form of a local id
abbrev pub shard_named : List ℕ → ℕ
shard_named id = cond ((length id == 4) && nat_lt (shard_of_id id) SHARDS) (shard_of_id id) 0

-- a Begin is routed by the subscriber that it names, later messages by the local id
abbrev pub route_message : (directory : List ℕ → Option (List ℕ)) → Message → ℕ
route_message directory (Begin origin name components) = shard_of_subject (subject_of_begin directory components)
route_message directory (Continue origin destination portion components) = shard_named destination
route_message directory (End destination portion components) = shard_named destination
route_message directory (Abort destination) = shard_named destination

-- a frame that is no message goes to shard 0
abbrev pub route_verdict : (directory : List ℕ → Option (List ℕ)) → Verdict → ℕ
route_verdict directory (Read message) = route_message directory message
route_verdict directory _ = 0

-- the shard of an event
abbrev pub route : (directory : List ℕ → Option (List ℕ)) → Event → ℕ
route directory (Frame from verdict) = route_verdict directory verdict
route directory (Clock shard now) = shard
route directory (Expire shard) = shard
route directory (Operator imsi change) = shard_of imsi
