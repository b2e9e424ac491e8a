-- What a run of the program promises, at every status.
use Rattle.std.specs.Prelude.{◌≡◌, ◌<◌, ◌≤◌, ◌⊎◌, ℕ, zero, suc, ◌+◌, List, [], ◌∷◌, ◌++◌, length, Option}
use Rattle.std.specs.List.{AllByRecursion}
use Rattle.std.specs.Io.KnownBytes.{Appends}
use Rattle.machine.specs.Sound.{Sound}
use Rattle.machine.specs.State.{State}
use Rattle.texts.specs.Lines.{lines}
use Rattle.records.specs.File.{IsBadLine, IsTwice}
use Rattle.records.specs.Loaded.{Subscribers}
use Rattle.hlr_input.specs.declared.options.Options.{Options}
use Rattle.records.specs.Maps.{DirectoryMap}
use Rattle.shardlog.specs.Log.{Log}
use Rattle.wholenode.specs.Keeping.{NodeKeeps}
use Rattle.wholenode.specs.Nodes.{node, whole}
use Rattle.workers.specs.Shared.{HandsOut}
use Rattle.hlr_program.specs.declared.check.Script.{Script}
use Rattle.hlr_program.specs.declared.fault.Fault.{Fault}
use Rattle.hlr_program.specs.declared.register.Register.{Register}
use Rattle.hlr_program.specs.declared.fault.Fault.TheVariants.{CommandLine, UnreadableRecords, BadRecord, TwiceRecord, UnreadableScript, BadLine, NoRoom, Memory, Unaccounted, Output}
use Rattle.hlr_program.specs.Batches.{IsGood, IsBad, IsFirst, batches_of}
use Rattle.hlr_program.specs.Checked.{IsChecked}
use Rattle.hlr_program.specs.Closing.{Closes}
use Rattle.hlr_program.specs.Journals.{IsAtEnd}
use Rattle.hlr_program.specs.Printed.{WritesFront}
use Rattle.hlr_program.specs.Registers.{RunsTo}
use Rattle.hlr_program.specs.Runs.{AreBatches, AreOneRun, AreRunFrom, BatchRun, IsLoadedFrom, events_in, noted_behind, opening_of, printed_of, sent_in}
use Rattle.hlr_program.specs.Sharing.{workers_for}
use Rattle.hlr_program.specs.Statuses.{message_of, status_of}
use Rattle.hlr_program.specs.Stopping.{BatchStops, HandingOutStops}

-- ---- the input

-- The text is a records file with these contents, and each line of the script is good.
pub record IsInput (file script : List ℕ) (loaded : Subscribers) : Type 0 where
  pub is_loaded : IsLoadedFrom file loaded
  pub is_script : AllByRecursion IsGood (lines script)

-- ---- status 0

-- All batches of the script lead the register from one to the other.
pub record RunsScript (script : List ℕ) (before : Register) (batches : List BatchRun) (after : Register) : Type 0 where
  pub are_batches : AreBatches [] (batches_of (lines script)) batches
  pub ran : RunsTo before (events_in batches) (sent_in batches) after

-- In one thread all batches are one run, event by event in order, which leads to these shards; the journals have the last entries
-- of the run.
pub record EndsAlone (begin : State) (batches : List BatchRun) (shards : List Log) : Type 0 where
  pub directory : DirectoryMap
  pub keeps : NodeKeeps (node directory shards)
  pub run : AreOneRun begin batches (whole shards)
  pub at_end : IsAtEnd begin (events_in batches) (sent_in batches) (node directory shards)

-- With workers, the events of all batches in some order lead by such a run to the shards that are returned, and each sends in it
-- what is printed for it.
abbrev pub EndsWith : (workers : ℕ) → State → List BatchRun → List Log → Type 0
EndsWith zero begin batches shards = EndsAlone begin batches shards
EndsWith (suc more) begin batches shards = HandsOut begin (events_in batches) (sent_in batches) shards

-- The register that loaded this runs all batches of the script. What is printed is what each batch sends, and then the listings
-- that the options ask for, of its shards at the end of the run.
pub record RunsAndLists (options : Options) (loaded : Subscribers) (script printed : List ℕ) : Type 0 where
  pub batches : List BatchRun
  pub are_batches : AreBatches [] (batches_of (lines script)) batches
  pub begins_sound : Sound (opening_of loaded)
  pub shards : List Log
  pub ends : EndsWith (workers_for options.workers script) (opening_of loaded) batches shards
  pub closing : List ℕ
  pub closes : Closes options.list options.save shards closing
  pub printed_is : printed ≡ printed_of batches ++ closing

-- The records file has its form, each line of the script is good, and the script is run on the contents of the file.
pub record Serves (options : Options) (file script printed : List ℕ) : Type 0 where
  pub workers_are : options.workers ≤ 16
  pub loaded : Subscribers
  pub input : IsInput file script loaded
  pub ran : RunsAndLists options loaded script printed

-- ---- other statuses: before the first batch

-- Why the records file is not read. A read error and running out of memory may occur at any time.
abbrev pub StopsRecords : (file : List ℕ) → Fault → Type 0
StopsRecords file UnreadableRecords = Unit {0}
StopsRecords file (BadRecord n) = IsBadLine file n
StopsRecords file (TwiceRecord n) = IsTwice file n
StopsRecords file Memory = Unit {0}
StopsRecords file CommandLine = ⊥
StopsRecords file UnreadableScript = ⊥
StopsRecords file (BadLine n) = ⊥
StopsRecords file NoRoom = ⊥
StopsRecords file (Unaccounted job) = ⊥
StopsRecords file Output = ⊥

-- Why the script is not read: its first bad line decides.
abbrev pub StopsScript : (script : List ℕ) → Fault → Type 0
StopsScript script UnreadableScript = Unit {0}
StopsScript script (BadLine n) = IsFirst IsGood IsBad (lines script) 0 n
StopsScript script Memory = Unit {0}
StopsScript script CommandLine = ⊥
StopsScript script UnreadableRecords = ⊥
StopsScript script (BadRecord n) = ⊥
StopsScript script (TwiceRecord n) = ⊥
StopsScript script NoRoom = ⊥
StopsScript script (Unaccounted job) = ⊥
StopsScript script Output = ⊥

-- Why nothing is run, in the order in which faults are looked for: options that are not served, the records file, the script.
abbrev pub StopsBefore : Options → (file script : List ℕ) → Fault → Type 0
StopsBefore options file script fault =
    ((16 < options.workers) × (fault ≡ CommandLine))
    ⊎ ((options.workers ≤ 16) × StopsRecords file fault)
    ⊎ ((options.workers ≤ 16) × (loaded : Subscribers) × IsLoadedFrom file loaded × StopsScript script fault)

-- ---- other statuses: in a batch

-- the number of lines of these batches, with the `W` after each
abbrev pub lines_before : List (List (List ℕ)) → ℕ
lines_before [] = 0
lines_before (batch ∷ more) = length batch + 1 + lines_before more

-- What is known about a register between its batches: in one thread its state, with workers nothing.
abbrev pub known_with : (workers : ℕ) → State → Option State
known_with zero S = Option.Some S
known_with (suc more) S = Option.None

-- The batches before the fault are one run, if one is known, and are printed in full; of the batch with the fault nothing is.
pub record StopsInBatch (script : List ℕ) (begin : Option State) (fault : Fault) (printed : List ℕ) : Type 0 where
  pub done : List (List (List ℕ))
  pub batch : List (List ℕ)
  pub rest : List (List (List ℕ))
  pub split : batches_of (lines script) ≡ done ++ batch ∷ rest
  pub batches : List BatchRun
  pub are_batches : AreBatches [] done batches
  pub met : Option State
  pub run : AreRunFrom begin batches met
  pub stops : BatchStops (noted_behind [] batches) (lines_before done) met batch fault
  pub printed_is : printed ≡ printed_of batches

-- Out of memory for the register: nothing is run.
pub record StopsAtOpening (fault : Fault) (printed : List ℕ) : Type 0 where
  pub memory : fault ≡ Memory
  pub printed_is : printed ≡ []

-- All batches are printed, and memory runs out for the listings, or, with workers, a job is not accounted for: nothing is listed.
pub record StopsAtListing (script : List ℕ) (begin : Option State) (fault : Fault) (printed : List ℕ) : Type 0 where
  pub cause : HandingOutStops begin fault
  pub batches : List BatchRun
  pub are_batches : AreBatches [] (batches_of (lines script)) batches
  pub met : Option State
  pub run : AreRunFrom begin batches met
  pub printed_is : printed ≡ printed_of batches

-- ---- other statuses: a writer that fails

-- While batches are printed: what was written is a prefix of what the first batches print.
pub record BreaksOff (script : List ℕ) (begin : Option State) (fault : Fault) (printed : List ℕ) : Type 0 where
  pub output : fault ≡ Output
  pub done : List (List (List ℕ))
  pub rest : List (List (List ℕ))
  pub split : batches_of (lines script) ≡ done ++ rest
  pub batches : List BatchRun
  pub are_batches : AreBatches [] done batches
  pub met : Option State
  pub run : AreRunFrom begin batches met
  pub left : List ℕ
  pub front : printed_of batches ≡ printed ++ left

-- While the listings are printed, or after them: what was written is a prefix of all that the run prints.
pub record BreaksOffListing (options : Options) (loaded : Subscribers) (script : List ℕ) (fault : Fault) (printed : List ℕ) : Type 0 where
  pub output : fault ≡ Output
  pub all : List ℕ
  pub ran : RunsAndLists options loaded script all
  pub left : List ℕ
  pub front : all ≡ printed ++ left

-- ---- other statuses: in all

-- Why not all batches are run and printed.
abbrev pub StopsBatches : (script : List ℕ) → Option State → Fault → (printed : List ℕ) → Type 0
StopsBatches script begin fault printed = StopsInBatch script begin fault printed ⊎ BreaksOff script begin fault printed

-- Why a script that was checked is not run to its end, and what is printed then.
abbrev pub StopsRunning : Options → Subscribers → (script : List ℕ) → Fault → (printed : List ℕ) → Type 0
StopsRunning options loaded script fault printed =
    StopsAtOpening fault printed
    ⊎ StopsBatches script (known_with (workers_for options.workers script) (opening_of loaded)) fault printed
    ⊎ StopsAtListing script (known_with (workers_for options.workers script) (opening_of loaded)) fault printed
    ⊎ BreaksOffListing options loaded script fault printed

-- ---- a script that was checked, on what was loaded

-- What is owed before: at most sixteen workers are asked for, each line has one of the forms, and what was loaded is sound.
pub record MayRun (options : Options) (loaded : Subscribers) (script : Script) : Type 0 where
  pub checked : IsChecked script
  pub sound : Sound (opening_of loaded)
  pub workers : options.workers ≤ 16

-- It is run, and what it prints follows what was written before.
abbrev pub HasRun : Options → Subscribers → (script : List ℕ) → (old new : Option (List ℕ)) → Type 0
HasRun options loaded script old new = (printed : List ℕ) × RunsAndLists options loaded script printed × Appends old new printed

-- It is not run to its end, and what was printed until then follows what was written before.
abbrev pub HasStopped : Options → Subscribers → (script : List ℕ) → (old new : Option (List ℕ)) → Fault → Type 0
HasStopped options loaded script old new fault =
    (printed : List ℕ) × StopsRunning options loaded script fault printed × Appends old new printed

-- ---- the program

-- What is printed if a run ends with this fault.
abbrev pub Fails : Options → (file script : List ℕ) → Fault → (printed : List ℕ) → Type 0
Fails options file script fault printed =
    (StopsBefore options file script fault × (printed ≡ []))
    ⊎ ((options.workers ≤ 16) × (loaded : Subscribers) × IsInput file script loaded × StopsRunning options loaded script fault printed)

-- A run succeeds or ends with a fault, and what it has printed follows what was written before. Options that are not served end
-- with a fault, whatever the input is.
abbrev pub Ends : Options → (file script : List ℕ) → (old new : Option (List ℕ)) → Option Fault → Type 0
Ends options file script old new Option.None = (printed : List ℕ) × Serves options file script printed × Appends old new printed
Ends options file script old new (Option.Some fault) = (printed : List ℕ) × Fails options file script fault printed × Appends old new printed

-- A run that succeeds prints nothing on `err`; another prints its fault, on one line; if the writer fails, a prefix of the line.
abbrev pub Tells : (old new : Option (List ℕ)) → Option Fault → Type 0
Tells old new Option.None = new ≡ old
Tells old new (Option.Some fault) = WritesFront old (message_of fault ++ 10 ∷ []) new

-- the status that a run ends with
abbrev pub status_at : Option Fault → ℕ
status_at Option.None = 0
status_at (Option.Some fault) = status_of fault
