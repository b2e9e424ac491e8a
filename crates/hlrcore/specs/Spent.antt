-- What is left of an event from which its octets or its change were taken.
use Rattle.std.specs.Prelude.{[]}
use Rattle.machine.specs.Events.{Withdraw}
use Rattle.frames.specs.Octets.{RawEvent, RawFrame, RawChange}

-- a frame of the same source without octets, a withdrawal of the same subscriber, and any other event as it was
abbrev pub spent : RawEvent → RawEvent
spent (RawFrame from octets) = RawFrame from []
spent (RawChange imsi c) = RawChange imsi Withdraw
spent raw = raw
