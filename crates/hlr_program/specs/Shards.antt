-- What a line says to each shard.
use Rattle.std.specs.Prelude.{ℕ, List, map}
use Rattle.std.specs.List.{range_with_len}
use Rattle.machine.specs.declared.numbers.TheConstants.{SHARDS}
use Rattle.frames.specs.Octets.{RawEvent, RawClock, RawExpire}
use Rattle.hlr_program.specs.declared.each.Each.{Each}
use Rattle.hlr_program.specs.declared.each.Each.TheVariants.{Clock, Expiry}

-- the event of a shard
abbrev pub event_for : Each → ℕ → RawEvent
event_for (Clock now) n = RawClock n now
event_for Expiry n = RawExpire n

-- an event of each shard, in order
abbrev pub events_for : Each → List RawEvent
events_for said = map (λ n. event_for said n) (range_with_len 0 SHARDS)
