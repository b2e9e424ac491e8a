-- How the events of a batch are given to the register, gathered and handled.
use Rattle.std.specs.Prelude.{◌≡◌, ℕ, List, ◌++◌, length, Option}
use Rattle.std.specs.List.{flat_map}
use Rattle.frames.specs.Octets.{RawEvent, RawOut}
use Rattle.machine.specs.State.{State}
use Rattle.hlr_input.specs.Script.{Line, IsLine}
use Rattle.hlr_program.specs.declared.answers.Answers.{Answers}
use Rattle.hlr_program.specs.declared.fault.Fault.{Fault}
use Rattle.hlr_program.specs.declared.register.Register.{Register}
use Rattle.hlr_program.specs.Answered.{so_far}
use Rattle.hlr_program.specs.Printed.{Prints, SoFar}
use Rattle.hlr_program.specs.Registers.{RunsTo, part_of, state_known}
use Rattle.hlr_program.specs.Runs.{AreEvents, BatchRun, LinesEvents, frames_of}
use Rattle.hlr_program.specs.Stopping.{EventsStop, IsUnknown, MeetsNoRoomFrom, StopsWhere}

-- The register, the events of a batch that it was given and has not handled yet, and what the events before them have answered.
pub record Progress : Type 0 where
  pub register : Register
  pub part : List RawEvent
  pub answers : SoFar

abbrev pub progress : Register → Answers → Progress
progress register answers = record { register = register; part = part_of register; answers = so_far answers }

-- the whole state of the register, if it is known
abbrev pub state_in : Progress → Option State
state_in p = state_known p.register

-- These events are appended; the first of all of them are handled.
pub record Adds (before : Progress) (raws : List RawEvent) (after : Progress) : Type 0 where
  pub handled : List RawEvent
  pub outs : List (List RawOut)
  pub order : before.part ++ raws ≡ handled ++ after.part
  pub ran : RunsTo before.register handled outs after.register
  pub prints : Prints before.answers (flat_map (λ o. o) outs) after.answers

abbrev pub AddsSaid : (ids : List (List ℕ)) → Progress → Line → Progress → Type 0
AddsSaid ids before said after = (raws : List RawEvent) × AreEvents ids said raws × Adds before raws after

abbrev pub AddsLine : (ids : List (List ℕ)) → Progress → List ℕ → Progress → Type 0
AddsLine ids before line after = (said : Line) × IsLine line said × AddsSaid ids before said after

abbrev pub AddsLines : (ids : List (List ℕ)) → Progress → List (List ℕ) → Progress → Type 0
AddsLines ids before lines after = (raws : List RawEvent) × LinesEvents ids lines raws × Adds before raws after

-- ---- why they are not all handled

-- Why these events, after the others, stop.
abbrev pub AddingStops : Progress → List RawEvent → Fault → Type 0
AddingStops before raws fault = EventsStop (state_in before) (before.part ++ raws) fault

abbrev pub SaidStops : (ids : List (List ℕ)) → Progress → Line → Fault → Type 0
SaidStops ids before said fault =
    StopsWhere ((raws : List RawEvent) × AreEvents ids said raws × MeetsNoRoomFrom (state_in before) (before.part ++ raws)) (IsUnknown (state_in before)) fault

abbrev pub LineStops : (ids : List (List ℕ)) → Progress → List ℕ → Fault → Type 0
LineStops ids before line fault =
    StopsWhere ((said : Line) × IsLine line said × (raws : List RawEvent) × AreEvents ids said raws × MeetsNoRoomFrom (state_in before) (before.part ++ raws))
    (IsUnknown (state_in before)) fault

-- The lines stand for events, and one of these is a change for which the machine has no room.
abbrev pub LinesMeetNoRoom : (ids : List (List ℕ)) → Progress → List (List ℕ) → Type 0
LinesMeetNoRoom ids before lines = (raws : List RawEvent) × LinesEvents ids lines raws × MeetsNoRoomFrom (state_in before) (before.part ++ raws)

abbrev pub LinesStop : (ids : List (List ℕ)) → Progress → List (List ℕ) → Fault → Type 0
LinesStop ids before lines fault = StopsWhere (LinesMeetNoRoom ids before lines) (IsUnknown (state_in before)) fault

-- ---- a batch

-- A batch is handled: its events lead the register from one to the other, and send this.
pub record Handles (ids : List (List ℕ)) (before : Register) (lines : List (List ℕ)) (sent : List RawOut) (after : Register) : Type 0 where
  pub batch : BatchRun
  pub are_events : LinesEvents ids lines batch.events
  pub one_each : length batch.sent ≡ length batch.events
  pub ran : RunsTo before batch.events batch.sent after
  pub sent_is : sent ≡ frames_of batch
