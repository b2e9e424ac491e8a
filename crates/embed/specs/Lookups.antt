-- What is looked up in a register.
use Rattle.std.specs.Prelude.{◌≡◌, ◌<◌, ℕ, List, Option, Some, None, min, slice_get}
use Rattle.std.specs.FinMap as map
use Rattle.machine.specs.Deadlines.{HasDue, IsTimer}
use Rattle.frames.specs.Octets.{RawEvent, RawFrame, RawClock, RawExpire, RawChange}
use Rattle.records.specs.Maps.{shard_of}
use Rattle.records.specs.Subscriber.{Subscriber}
use Rattle.hlrcore.specs.Shards.{state_of}
use Rattle.shardlog.specs.Log.{Log}
use Rattle.wholenode.specs.Nodes.{NodeState, whole}

-- The record of a subscriber in a shard.
abbrev pub record_in : Option Log → (imsi : List ℕ) → Option Subscriber
record_in None imsi = None
record_in (Some l) imsi = map.get l.state.records imsi

-- The record of a subscriber, which stands in the shard of its IMSI.
abbrev pub record_of : NodeState → (imsi : List ℕ) → Option Subscriber
record_of node imsi = record_in (slice_get node.shards (shard_of imsi)) imsi

abbrev pub record_if : NodeState → (imsi : Option (List ℕ)) → Option Subscriber
record_if node None = None
record_if node (Some imsi) = record_of node imsi

-- The record of the subscriber with this MSISDN, by the directory.
abbrev pub record_by_number : NodeState → (msisdn : List ℕ) → Option Subscriber
record_by_number node msisdn = record_if node (map.get node.directory msisdn)

-- A timer of one of the shards has this deadline.
abbrev pub IsTimerOf : NodeState → (deadline : ℕ) → Type 0
IsTimerOf node deadline = (n : ℕ) × IsTimer (whole node.shards) n deadline

-- A timer of one of the first i shards has it.
abbrev pub TimerBelow : List Log → (i deadline : ℕ) → Type 0
TimerBelow shards i deadline =
    (n : ℕ) × (n < i) × (l : Log) × (slice_get shards n ≡ Some l) × IsTimer (state_of l.state) l.state.shard deadline

-- The earlier of two deadlines, of which there may be none.
abbrev pub earlier : Option ℕ → Option ℕ → Option ℕ
earlier None other = other
earlier (Some one) None = Some one
earlier (Some one) (Some other) = Some (min one other)

-- The event does nothing: an expiry of a shard where no timer is due, or a change of a subscriber without a record.
abbrev pub IsIdle : NodeState → RawEvent → Type 0
IsIdle node (RawFrame from octets) = ⊥
IsIdle node (RawClock shard now) = ⊥
IsIdle node (RawExpire shard) = HasDue (whole node.shards) shard → ⊥
IsIdle node (RawChange imsi change) = (whole node.shards).records imsi ≡ None
