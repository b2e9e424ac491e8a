-- Several events of a shard, one after the other.
use Rattle.std.specs.Prelude.{◌≡◌, List, [], ◌∷◌, ◌++◌, map, All}
use Rattle.machine.specs.Routing.{route}
use Rattle.machine.specs.Step.{HasNoRoom}
use Rattle.frames.specs.Octets.{RawEntry, RawEvent, RunOctets}
use Rattle.hlrcore.specs.declared.answer.StepAnswer.{StepAnswer}
use Rattle.hlrcore.specs.Answers.{entry_of}
use Rattle.hlrcore.specs.Replaying.{Runs}
use Rattle.hlrcore.specs.Shards.{ShardState, directory_of, state_of}
use Rattle.hlrcore.specs.declared.fault.StepFault.{StepFault}
use Rattle.hlrcore.specs.declared.fault.StepFault.TheVariants.{NotMine, NoRoom, Memory}
use Rattle.hlrcore.specs.declared.event.Event.{Event}
use Rattle.hlrcore.specs.Events.{event_of, raw_of}

-- the entries of events and their answers, one by one
abbrev pub entries_of : List RawEvent → List StepAnswer → List RawEntry
entries_of (raw ∷ raws) (a ∷ answers) = entry_of raw a ∷ entries_of raws answers
entries_of _ _ = []

-- The event is for this shard.
abbrev pub IsForShard : ShardState → Event → Type 0
IsForShard s event = route (directory_of s.directory) (event_of event) ≡ s.shard

-- Each event is for this shard. With these answers the events are handled one after the other and lead from one state to the other, which is
-- a run of the machine over octets.
pub record RunsTo (s : ShardState) (events : List Event) (answers : List StepAnswer) (t : ShardState) : Type 0 where
  pub own : All (IsForShard s) events
  pub runs : Runs s (map raw_of events) answers t
  pub run : RunOctets (state_of s) (entries_of (map raw_of events) answers) (state_of t)

-- Why an event is not handled: it is for another shard; it is for this one, and the machine has no step for it; or out of memory.
abbrev pub RefusedFor : ShardState → Event → StepFault → Type 0
RefusedFor s event NotMine = ¬ IsForShard s event
RefusedFor s event NoRoom = IsForShard s event × HasNoRoom (state_of s) (event_of event)
RefusedFor s event Memory = Unit {0}

-- The events before one of them run, to the state after; this one is refused there, for this reason.
pub record BreaksOff (s : ShardState) (events : List Event) (answers : List StepAnswer) (fault : StepFault) (t : ShardState) : Type 0 where
  pub before : List Event
  pub next : Event
  pub rest : List Event
  pub events_are : events ≡ before ++ next ∷ rest
  pub runs : RunsTo s before answers t
  pub refused : RefusedFor t next fault
