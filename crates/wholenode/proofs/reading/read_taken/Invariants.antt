use Rattle.std.proofs.Common.{◌≡◌, ◌++◌, map}
use Rattle.std.specs.Vec.Iter.{drain_items}
use Rattle.hlrcore.specs.Events.{raw_event}
use Rattle.wholenode.specs.Reading.{AreRead}
use Rattle.wholenode.proofs.reading.read_taken.Given as goal

abbrev pub invariant-loop-raw : goal.invariant-loop-raw
invariant-loop-raw l =
    record { whole : l.yielded ++ drain_items l.raw-iterator ≡ l.fn.events.items; read : AreRead (map raw_event l.yielded) l.read.items }
