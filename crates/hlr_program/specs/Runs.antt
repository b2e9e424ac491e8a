-- The events that a script stands for, and what the register does with them: one run, batch by batch (profile).
use Rattle.std.specs.Prelude.{◌≡◌, ℕ, List, [], ◌∷◌, ◌++◌, length, map, Option, Some, None}
use Rattle.std.specs.List.{flat_map, range_with_len}
use Rattle.machine.specs.declared.numbers.TheConstants.{SHARDS}
use Rattle.machine.specs.Events as machine
use Rattle.machine.specs.Opening.{opening}
use Rattle.machine.specs.State.{State}
use Rattle.frames.specs.Octets.{RawEvent, RawFrame, RawClock, RawExpire, RawChange, RawOut}
use Rattle.hlr_input.specs.declared.group.Group.{Group}
use Rattle.hlr_input.specs.Octets.{IsOctets, octets_of}
use Rattle.hlr_input.specs.Script.{Line, Frame, Clock, Expire, Batch, Codes, Withdraw, IsLine}
use Rattle.records.specs.File.{Contents, File}
use Rattle.records.specs.Loaded.{Subscribers, loaded_from}
use Rattle.hlrcore.specs.Shards.{records_of, directory_of}
use Rattle.wholenode.specs.Handling.{IsRun}
use Rattle.hlr_program.specs.Printed.{sent_lines, noted_in}

-- ---- events

-- What a line says stands for these events, if the letters stand for these ids: a frame is one event; a clock value and an
-- expiry are one for each shard, in order of shards.
abbrev pub AreEvents : (ids : List (List ℕ)) → Line → List RawEvent → Type 0
AreEvents ids (Frame from field) events =
    (groups : List Group) × (octets : List ℕ) × IsOctets field groups × (octets_of ids groups ≡ Some octets) × (events ≡ RawFrame from octets ∷ [])
AreEvents ids (Clock now) events = events ≡ map (λ n. RawClock n now) (range_with_len 0 SHARDS)
AreEvents ids Expire events = events ≡ map (λ n. RawExpire n) (range_with_len 0 SHARDS)
AreEvents ids Batch events = events ≡ []
AreEvents ids (Codes imsi codes) events = events ≡ RawChange imsi (machine.Codes codes) ∷ []
AreEvents ids (Withdraw imsi) events = events ≡ RawChange imsi machine.Withdraw ∷ []

-- The events that a line stands for.
abbrev pub LineEvents : (ids : List (List ℕ)) → List ℕ → List RawEvent → Type 0
LineEvents ids line events = (said : Line) × IsLine line said × AreEvents ids said events

-- The events that lines stand for, in order.
abbrev pub LinesEvents : (ids : List (List ℕ)) → List (List ℕ) → List RawEvent → Type 0
LinesEvents ids [] events = events ≡ []
LinesEvents ids (line ∷ more) events =
    (front rest : List RawEvent) × LineEvents ids line front × LinesEvents ids more rest × (events ≡ front ++ rest)

-- ---- batches

-- The events of a batch, and what the register sends for each of them.
pub record BatchRun : Type 0 where
  pub events : List RawEvent
  pub sent : List (List RawOut)

-- the frames that a batch has sent, in order
abbrev pub frames_of : BatchRun → List RawOut
frames_of b = flat_map (λ outs. outs) b.sent

-- the events of all batches, in order
abbrev pub events_in : List BatchRun → List RawEvent
events_in batches = flat_map (λ b. b.events) batches

-- what is sent for each of them
abbrev pub sent_in : List BatchRun → List (List RawOut)
sent_in batches = flat_map (λ b. b.sent) batches

-- These are the batches of a script: the events that their lines stand for, with the letters of a batch standing for the first
-- ids that the batches before it have sent.
abbrev pub AreBatches : (ids : List (List ℕ)) → List (List (List ℕ)) → List BatchRun → Type 0
AreBatches ids [] [] = Unit {0}
AreBatches ids (lines ∷ more) (b ∷ bs) =
    LinesEvents ids lines b.events × (length b.sent ≡ length b.events) × AreBatches (noted_in ids (frames_of b)) more bs
AreBatches ids _ _ = ⊥

-- The ids of the letters after these batches.
abbrev pub noted_behind : (ids : List (List ℕ)) → List BatchRun → List (List ℕ)
noted_behind ids [] = ids
noted_behind ids (b ∷ bs) = noted_behind (noted_in ids (frames_of b)) bs

-- The batches are one run of the register: their events, in order, lead from one state to the other, and send this.
abbrev pub AreOneRun : State → List BatchRun → State → Type 0
AreOneRun S batches T = IsRun S (events_in batches) (sent_in batches) T

-- The same, if the states are known; nothing is claimed for shards that workers share.
abbrev pub AreRunFrom : Option State → List BatchRun → Option State → Type 0
AreRunFrom (Some S) batches (Some T) = AreOneRun S batches T
AreRunFrom (Some S) batches None = ⊥
AreRunFrom None batches (Some T) = ⊥
AreRunFrom None batches None = Unit {0}

-- What batches print: the frames of each, one line for each frame.
abbrev pub printed_of : List BatchRun → List ℕ
printed_of batches = flat_map (λ b. sent_lines (frames_of b)) batches

-- ---- the beginning of a run

-- The state in which a register that loaded this begins: its records, no dialogue, each clock at 0.
abbrev pub opening_of : Subscribers → State
opening_of loaded = opening (records_of loaded.records) (directory_of loaded.directory) loaded.hlr

-- The text is a records file, and this is what is loaded from it.
abbrev pub IsLoadedFrom : List ℕ → Subscribers → Type 0
IsLoadedFrom file loaded = (contents : Contents) × File file contents × (loaded ≡ loaded_from contents)
