-- Events that were read, and events of which one was not.
use Rattle.std.specs.Prelude.{◌≡◌, List, [], ◌∷◌, ◌++◌}
use Rattle.frames.specs.Octets.{IsEvent, RawEvent}
use Rattle.hlrcore.specs.declared.event.Event.{Event}
use Rattle.hlrcore.specs.Events.{event_of, raw_of}
use Rattle.wholenode.specs.declared.fault.Cause.{Cause}
use Rattle.wholenode.specs.Handling.{Refuses}
use Rattle.wholenode.specs.Nodes.{NodeState}

-- These events were read one after another: each still is the one that was received, and is as the machine has it.
abbrev pub AreRead : List RawEvent → List Event → Type 0
AreRead [] [] = Unit {0}
AreRead (raw ∷ raws) (event ∷ events) = (raw_of event ≡ raw) × IsEvent raw (event_of event) × AreRead raws events
AreRead _ _ = ⊥

-- One of these events is not read: every register refuses it for this cause.
pub record HasUnread (raws : List RawEvent) (cause : Cause) : Type 0 where
  pub before : List RawEvent
  pub refused : RawEvent
  pub rest : List RawEvent
  pub raws_are : raws ≡ before ++ refused ∷ rest
  pub refuses : (node : NodeState) → Refuses node refused cause
