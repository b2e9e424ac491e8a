-- Why a job has no entry: its event was not read, or its shard did not handle it.
use Rattle.hlrcore.specs.declared.event.EventFault.{EventFault}
use Rattle.hlrcore.specs.declared.event.EventFault.TheVariants as event
use Rattle.shardlog.specs.declared.fault.ShardFault.{ShardFault}
use Rattle.shardlog.specs.declared.fault.ShardFault.TheVariants as shard
use Rattle.receipts.specs.declared.refusal.Refusal.{Refusal}
use Rattle.receipts.specs.declared.refusal.Refusal.TheVariants.{NotMine, JournalFull, NoRoom, Memory, ResetRefused}

abbrev pub refusal_of : ShardFault → Refusal
refusal_of shard.NotMine = NotMine
refusal_of shard.JournalFull = JournalFull
refusal_of shard.NoRoom = NoRoom
refusal_of shard.Memory = Memory

abbrev pub unread : EventFault → Refusal
unread event.Memory = Memory
unread (event.ResetRefused _) = ResetRefused
