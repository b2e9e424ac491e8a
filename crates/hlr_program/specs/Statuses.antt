-- The faults that end a run, their lines, and the program's exit status: 2 for out of memory, 3 for a job that is not accounted
-- for, otherwise 1 (profile).
use Rattle.std.specs.Prelude.{ℕ, List, ◌++◌, codes as text}
use Rattle.std.specs.Fmt.{decimal}
use Rattle.hlr_program.specs.declared.fault.Fault.{Fault}
use Rattle.hlr_program.specs.declared.fault.Fault.TheVariants.{CommandLine, UnreadableRecords, BadRecord, TwiceRecord, UnreadableScript, BadLine, NoRoom, Memory, Unaccounted, Output}
use Rattle.records.specs.declared.fault.RecordsFault.{RecordsFault}
use Rattle.records.specs.declared.fault.RecordsFault.TheVariants as records
use Rattle.hlr_input.specs.declared.options.WordsFault.{WordsFault}
use Rattle.hlr_input.specs.declared.options.WordsFault.TheVariants as words
use Rattle.wholenode.specs.declared.fault.Cause.{Cause}
use Rattle.wholenode.specs.declared.fault.Cause.TheVariants as cause
use Rattle.workers.specs.declared.shared_fault.SharedFault.{SharedFault}
use Rattle.workers.specs.declared.shared_fault.SharedFault.TheVariants as shared

abbrev pub status_of : Fault → ℕ
status_of Memory = 2
status_of (Unaccounted job) = 3
status_of CommandLine = 1
status_of UnreadableRecords = 1
status_of (BadRecord line) = 1
status_of (TwiceRecord line) = 1
status_of UnreadableScript = 1
status_of (BadLine line) = 1
status_of NoRoom = 1
status_of Output = 1

-- the line on standard error, without its line feed
abbrev pub message_of : Fault → List ℕ
message_of CommandLine = text "hlr: command line"
message_of UnreadableRecords = text "hlr: cannot read records"
message_of (BadRecord line) = text "hlr: records line " ++ decimal line
message_of (TwiceRecord line) = text "hlr: records line " ++ decimal line ++ text " twice"
message_of UnreadableScript = text "hlr: cannot read script"
message_of (BadLine line) = text "hlr: script line " ++ decimal line
message_of NoRoom = text "hlr: no room"
message_of Memory = text "hlr: memory"
message_of (Unaccounted job) = text "hlr: unaccounted job " ++ decimal job
message_of Output = text "hlr: output"

-- why a part of a batch stopped; no journal is ever full
abbrev pub stopped_by : Cause → Fault
stopped_by cause.Memory = Memory
stopped_by cause.ResetRefused = Memory
stopped_by cause.NoRoom = NoRoom
stopped_by cause.JournalFull = Memory

-- why workers did not handle a part of a batch
abbrev pub shared_fault : SharedFault → Fault
shared_fault shared.Memory = Memory
shared_fault shared.NoRoom = NoRoom
shared_fault (shared.Unaccounted job) = Unaccounted job

-- why their shards are not returned
abbrev pub closing_fault : SharedFault → Fault
closing_fault shared.Memory = Memory
closing_fault shared.NoRoom = Unaccounted 0
closing_fault (shared.Unaccounted job) = Unaccounted job

-- why the words are no command line
abbrev pub words_fault : WordsFault → Fault
words_fault words.Line = CommandLine
words_fault words.Memory = Memory

-- why the records file was not read
abbrev pub records_fault : RecordsFault → Fault
records_fault (records.BadLine line) = BadRecord line
records_fault (records.Twice line) = TwiceRecord line
records_fault records.Memory = Memory

-- What ends the reading of a script: one of its lines, or out of memory.
abbrev pub IsScriptFault : Fault → Type 0
IsScriptFault (BadLine number) = Unit {0}
IsScriptFault Memory = Unit {0}
IsScriptFault CommandLine = ⊥
IsScriptFault UnreadableRecords = ⊥
IsScriptFault (BadRecord line) = ⊥
IsScriptFault (TwiceRecord line) = ⊥
IsScriptFault UnreadableScript = ⊥
IsScriptFault NoRoom = ⊥
IsScriptFault (Unaccounted job) = ⊥
IsScriptFault Output = ⊥
