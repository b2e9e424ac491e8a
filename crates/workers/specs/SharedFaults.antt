-- Why a register that workers share cannot go on.
use Rattle.std.specs.Prelude.{Option, Some, None, Ok, Err, Result}
use Rattle.receipts.specs.declared.placed.Placed.{Placed}
use Rattle.receipts.specs.declared.refusal.Refusal.{Refusal}
use Rattle.receipts.specs.declared.refusal.Refusal.TheVariants as refusal
use Rattle.workers.specs.declared.shared_fault.SharedFault.{SharedFault}
use Rattle.workers.specs.declared.shared_fault.SharedFault.TheVariants.{Memory, NoRoom}

-- A refusal for lack of memory or of room stops a part. The others are found when the journals are accounted for.
abbrev pub stopped_by : Refusal → Option SharedFault
stopped_by refusal.NotMine = None
stopped_by refusal.JournalFull = None
stopped_by refusal.NoRoom = Some NoRoom
stopped_by refusal.Memory = Some Memory
stopped_by refusal.ResetRefused = Some Memory

abbrev pub fault_in : Result Placed Refusal → Option SharedFault
fault_in (Ok placed) = None
fault_in (Err refusal) = stopped_by refusal
