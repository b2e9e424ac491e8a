-- Why not all events, and the batches that they are in, are handled.
use Rattle.std.specs.Prelude.{◌≡◌, ℕ, List, ◌∷◌, ◌++◌, length, Option, Some, None}
use Rattle.std.specs.List.{AllByRecursion}
use Rattle.machine.specs.Events.{Event}
use Rattle.machine.specs.State.{State}
use Rattle.machine.specs.Step.{HasNoRoom}
use Rattle.frames.specs.Octets.{RawEvent, RawOut, IsEvent}
use Rattle.wholenode.specs.Handling.{IsRun}
use Rattle.hlr_program.specs.declared.fault.Fault.{Fault}
use Rattle.hlr_program.specs.declared.fault.Fault.TheVariants.{CommandLine, UnreadableRecords, BadRecord, TwiceRecord, UnreadableScript, BadLine, NoRoom, Memory, Unaccounted, Output}
use Rattle.hlr_program.specs.Batches.{HasIds, LacksId, IsFirst}
use Rattle.hlr_program.specs.Runs.{LinesEvents}

-- One of these events, after those that are handled, is a change for which the machine has no room.
pub record MeetsNoRoom (S : State) (events : List RawEvent) : Type 0 where
  pub handled : List RawEvent
  pub next : RawEvent
  pub rest : List RawEvent
  pub split : events ≡ handled ++ next ∷ rest
  pub sent : List (List RawOut)
  pub met : State
  pub run : IsRun S handled sent met
  pub event : Event
  pub is_event : IsEvent next event
  pub no_room : HasNoRoom met event

-- The same, if the state in which the events are handled is known. For shards that workers share nothing is known.
abbrev pub MeetsNoRoomFrom : Option State → List RawEvent → Type 0
MeetsNoRoomFrom (Some S) events = MeetsNoRoom S events
MeetsNoRoomFrom None events = Unit {0}

-- Workers share the shards.
abbrev pub IsUnknown : Option State → Type 0
IsUnknown (Some S) = ⊥
IsUnknown None = Unit {0}

-- Events stop for lack of room, if `WantsRoom`; for a job that is not accounted for, if `CountsJobs`; out of memory, at any
-- time; for nothing else.
abbrev pub StopsWhere : (WantsRoom CountsJobs : Type 0) → Fault → Type 0
StopsWhere WantsRoom CountsJobs NoRoom = WantsRoom
StopsWhere WantsRoom CountsJobs Memory = Unit {0}
StopsWhere WantsRoom CountsJobs CommandLine = ⊥
StopsWhere WantsRoom CountsJobs UnreadableRecords = ⊥
StopsWhere WantsRoom CountsJobs (BadRecord n) = ⊥
StopsWhere WantsRoom CountsJobs (TwiceRecord n) = ⊥
StopsWhere WantsRoom CountsJobs UnreadableScript = ⊥
StopsWhere WantsRoom CountsJobs (BadLine n) = ⊥
StopsWhere WantsRoom CountsJobs (Unaccounted job) = CountsJobs
StopsWhere WantsRoom CountsJobs Output = ⊥

-- Why events that begin in this state, as far as it is known, stop.
abbrev pub EventsStop : Option State → List RawEvent → Fault → Type 0
EventsStop known events fault = StopsWhere (MeetsNoRoomFrom known events) (IsUnknown known) fault

-- Why shards are not returned, or not listed.
abbrev pub HandingOutStops : Option State → Fault → Type 0
HandingOutStops known fault = StopsWhere ⊥ (IsUnknown known) fault

-- ---- a batch

-- Each letter of the batch has an id, and one of its events, after those that are handled, is a change for which the machine has
-- no room.
pub record BatchMeetsNoRoom (ids : List (List ℕ)) (known : Option State) (batch : List (List ℕ)) : Type 0 where
  pub have_ids : AllByRecursion (HasIds (length ids)) batch
  pub events : List RawEvent
  pub are_events : LinesEvents ids batch events
  pub meets : MeetsNoRoomFrom known events

-- Why a batch stops, with `before` lines before it: its first letter without an id, before every other fault; a change without
-- room; a job that is not accounted for, if workers share the shards; out of memory, at any time.
abbrev pub BatchStops : (ids : List (List ℕ)) (before : ℕ) → Option State → List (List ℕ) → Fault → Type 0
BatchStops ids before known batch (BadLine n) = IsFirst (HasIds (length ids)) (LacksId (length ids)) batch before n
BatchStops ids before known batch NoRoom = BatchMeetsNoRoom ids known batch
BatchStops ids before known batch Memory = Unit {0}
BatchStops ids before known batch CommandLine = ⊥
BatchStops ids before known batch UnreadableRecords = ⊥
BatchStops ids before known batch (BadRecord n) = ⊥
BatchStops ids before known batch (TwiceRecord n) = ⊥
BatchStops ids before known batch UnreadableScript = ⊥
BatchStops ids before known batch (Unaccounted job) = IsUnknown known
BatchStops ids before known batch Output = ⊥
