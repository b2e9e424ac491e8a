-- Events of the code, as those of the definitions.
use Rattle.machine.specs.Events as machine
use Rattle.frames.specs.Octets as frames
use Rattle.hlrcore.specs.declared.change.Change.{Change}
use Rattle.hlrcore.specs.declared.change.Change.TheVariants.{Codes, Withdraw}
use Rattle.hlrcore.specs.declared.event.RawEvent.{RawEvent}
use Rattle.hlrcore.specs.declared.event.RawEvent.TheVariants as raw
use Rattle.hlrcore.specs.declared.event.Event.{Event}
use Rattle.hlrcore.specs.declared.event.Event.TheVariants.{Frame, Clock, Expire, Change as Changed}

abbrev pub change : Change → machine.Change
change (Codes codes) = machine.Codes codes.value
change Withdraw = machine.Withdraw

-- as received
abbrev pub raw_event : RawEvent → frames.RawEvent
raw_event (raw.Frame from octets) = frames.RawFrame from octets.items
raw_event (raw.Clock shard now) = frames.RawClock shard now
raw_event (raw.Expire shard) = frames.RawExpire shard
raw_event (raw.Change imsi c) = frames.RawChange imsi (change c)

-- decoded, as it was received
abbrev pub raw_of : Event → frames.RawEvent
raw_of (Frame indication) = frames.RawFrame indication.from indication.octets
raw_of (Clock shard now) = frames.RawClock shard now
raw_of (Expire shard) = frames.RawExpire shard
raw_of (Changed imsi c) = frames.RawChange imsi (change c)

-- decoded, as the machine has it
abbrev pub event_of : Event → machine.Event
event_of (Frame indication) = machine.Frame indication.from indication.verdict
event_of (Clock shard now) = machine.Clock shard now
event_of (Expire shard) = machine.Expire shard
event_of (Changed imsi c) = machine.Operator imsi (change c)
