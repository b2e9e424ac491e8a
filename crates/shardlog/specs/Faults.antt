-- Why a shard did not handle an event that its state refused.
use Rattle.hlrcore.specs.declared.fault.StepFault.{StepFault}
use Rattle.hlrcore.specs.declared.fault.StepFault.TheVariants as step
use Rattle.shardlog.specs.declared.fault.ShardFault.{ShardFault}
use Rattle.shardlog.specs.declared.fault.ShardFault.TheVariants.{NotMine, NoRoom, Memory}

abbrev pub fault_of : StepFault → ShardFault
fault_of step.NotMine = NotMine
fault_of step.NoRoom = NoRoom
fault_of step.Memory = Memory
