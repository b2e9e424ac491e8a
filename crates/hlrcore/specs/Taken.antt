-- What was read of an event, and why one is not read.
use Rattle.std.specs.Prelude.{Result, Ok, Err}
use Rattle.frames.specs.Octets.{RawEvent, RawFrame}
use Rattle.hlrcore.specs.declared.event.Event.{Event}
use Rattle.hlrcore.specs.declared.event.EventFault.{EventFault}
use Rattle.hlrcore.specs.declared.event.EventFault.TheVariants.{Memory, ResetRefused}

-- This holds for the event that was read, even if the arena could not be reset.
abbrev pub IfRead : Result Event EventFault → (Event → Type 0) → Type 0
IfRead (Ok event) P = P event
IfRead (Err (ResetRefused event)) P = P event
IfRead (Err Memory) P = Unit {0}

-- The event is a frame: no other is decoded in an arena.
abbrev pub HasFrame : RawEvent → Type 0
HasFrame (RawFrame from octets) = Unit {0}
HasFrame _ = ⊥

-- Memory can run out with every event; an arena has to be reset only after a frame.
abbrev pub IsEventFault : RawEvent → EventFault → Type 0
IsEventFault raw Memory = Unit {0}
IsEventFault raw (ResetRefused event) = HasFrame raw
