-- Why an event was not handled: it was not read, or its shard did not handle it.
use Rattle.hlrcore.specs.declared.event.EventFault.{EventFault}
use Rattle.hlrcore.specs.declared.event.EventFault.TheVariants as event
use Rattle.shardlog.specs.declared.fault.ShardFault.{ShardFault}
use Rattle.shardlog.specs.declared.fault.ShardFault.TheVariants as shard
use Rattle.wholenode.specs.declared.fault.Cause.{Cause}
use Rattle.wholenode.specs.declared.fault.Cause.TheVariants.{Memory, JournalFull, ResetRefused, NoRoom}

abbrev pub unread : EventFault → Cause
unread event.Memory = Memory
unread (event.ResetRefused read) = ResetRefused

-- Each event is handled only in its own shard.
abbrev pub unhandled : ShardFault → Cause
unhandled shard.NotMine = Memory
unhandled shard.JournalFull = JournalFull
unhandled shard.NoRoom = NoRoom
unhandled shard.Memory = Memory
