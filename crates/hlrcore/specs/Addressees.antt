-- Whom an event is for: a shard, and of a Begin the subscriber that it is about (profile).
use Rattle.std.specs.Prelude.{◌≡◌, ℕ, List, Option, None}
use Rattle.machine.specs.Received.{Message, Begin, Verdict, Read}
use Rattle.machine.specs.Events.{Event, Frame}
use Rattle.machine.specs.Routing.{subject_of_begin, route}
use Rattle.hlrcore.specs.declared.routing.Addressee.{Addressee}

-- only a Begin is about somebody before its dialogue is looked up
abbrev pub subject_of_message : (directory : List ℕ → Option (List ℕ)) → Message → Option (List ℕ)
subject_of_message directory (Begin origin name components) = subject_of_begin directory components
subject_of_message directory _ = None

abbrev pub subject_of_verdict : (directory : List ℕ → Option (List ℕ)) → Verdict → Option (List ℕ)
subject_of_verdict directory (Read message) = subject_of_message directory message
subject_of_verdict directory _ = None

abbrev pub subject_of_event : (directory : List ℕ → Option (List ℕ)) → Event → Option (List ℕ)
subject_of_event directory (Frame from verdict) = subject_of_verdict directory verdict
subject_of_event directory _ = None

-- This shard and this subscriber are those of the event.
pub record IsAddressee (directory : List ℕ → Option (List ℕ)) (event : Event) (it : Addressee) : Type 0 where
  pub shard : it.shard ≡ route directory event
  pub subject : it.subject ≡ subject_of_event directory event
