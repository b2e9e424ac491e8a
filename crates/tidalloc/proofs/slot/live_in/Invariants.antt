use Rattle.std.proofs.Common.{◌≡◌, ◌++◌, drop}
use Rattle.tidalloc.specs.Slots.{ids_from}
use Rattle.tidalloc.proofs.slot.live_in.Given as goal

abbrev pub invariant-loop-number : goal.invariant-loop-number
invariant-loop-number l = l.ids.items ++ ids_from l.shard l.number (drop l.number l.slots) ≡ ids_from l.shard 0 l.slots
