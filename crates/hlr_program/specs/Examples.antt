-- Worked examples of batches, of what is printed and of how a run ends.
use Rattle.std.specs.Prelude.{◌≡◌, ℕ, ◌-◌, true, List, [], ◌∷◌, ◌++◌, map as each, replicate, codes as text}
use Rattle.std.specs.List.{flat_map}
use Rattle.shardlog.specs.Log.{Log}
use Rattle.hlr_program.specs.declared.fault.Fault.{Fault}
use Rattle.hlr_program.specs.declared.fault.Fault.TheVariants.{CommandLine, UnreadableRecords, BadRecord, TwiceRecord, UnreadableScript, BadLine, NoRoom, Memory, Unaccounted, Output}
use Rattle.hlr_program.specs.Batches.{batches_of}
use Rattle.hlr_program.specs.Closing.{Closes, Lists, SavesLines, behind_v}
use Rattle.hlr_program.specs.Printed.{sent_line}
use Rattle.hlr_program.specs.Promise.{lines_before}
use Rattle.hlr_program.specs.Sharing.{workers_for}
use Rattle.hlr_program.specs.Statuses.{message_of, status_of}

pub record ScriptBatches : Type 0 where
  pub three : batches_of (text "E" ∷ text "W" ∷ text "W" ∷ text "C 5" ∷ []) ≡ (text "E" ∷ []) ∷ [] ∷ (text "C 5" ∷ []) ∷ []
  pub last_w : batches_of (text "E" ∷ text "W" ∷ []) ≡ (text "E" ∷ []) ∷ []
  pub before_third : lines_before ((text "E" ∷ []) ∷ [] ∷ []) ≡ 3

-- As many lines as stand before the `W` in a batch, in two batches.
abbrev twice : (count : ℕ) → List ℕ
twice count = let batch = flat_map (λ line. line ++ 10 ∷ []) (replicate count (text "E") ++ text "W" ∷ []) in batch ++ batch

pub record ScriptWorkers : Type 0 where
  pub long_batch : workers_for 4 (twice 256) ≡ 4
  pub short_batches : workers_for 4 (twice 255) ≡ 0
  pub not_asked_for : workers_for 0 (twice 256) ≡ 0

pub record PrintedLines : Type 0 where
  pub frame : sent_line (each (λ character. character - 48) (text "447700900011")) (0x62 ∷ 0x0A ∷ []) ≡ text "S 447700900011 620A" ++ 10 ∷ []
  pub saved_line : behind_v (text "HLR2 4477" ++ 10 ∷ []) ≡ text "V HLR2 4477" ++ 10 ∷ []
  pub saved_last : (shards : List Log) (listed saved : List ℕ) → Lists shards listed → SavesLines shards saved
      → Closes true true shards (listed ++ saved)

-- the status and the line of this fault
pub record EndsSo (fault : Fault) (status : ℕ) (line : List ℕ) : Type 0 where
  pub status_is : status_of fault ≡ status
  pub line_is : message_of fault ≡ line

pub record Endings : Type 0 where
  pub command_line : EndsSo CommandLine 1 (text "hlr: command line")
  pub unreadable_records : EndsSo UnreadableRecords 1 (text "hlr: cannot read records")
  pub bad_record : EndsSo (BadRecord 12) 1 (text "hlr: records line 12")
  pub record_twice : EndsSo (TwiceRecord 12) 1 (text "hlr: records line 12 twice")
  pub unreadable_script : EndsSo UnreadableScript 1 (text "hlr: cannot read script")
  pub bad_line : EndsSo (BadLine 12) 1 (text "hlr: script line 12")
  pub no_room : EndsSo NoRoom 1 (text "hlr: no room")
  pub memory : EndsSo Memory 2 (text "hlr: memory")
  pub unaccounted : EndsSo (Unaccounted 7) 3 (text "hlr: unaccounted job 7")
  pub output : EndsSo Output 1 (text "hlr: output")
