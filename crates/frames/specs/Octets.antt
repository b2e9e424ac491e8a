-- The machine over octets: events as they are received, entries with the octets that are sent, and the steps and runs of
-- such entries.
use Rattle.std.specs.Prelude.{◌≡◌, ℕ, List, [], ◌∷◌, map, Option}
use Rattle.machine.specs.Sent.{Out}
use Rattle.machine.specs.Events.{Change, Event, Frame, Clock, Expire, Operator}
use Rattle.machine.specs.State.{State}
use Rattle.machine.specs.Routing.{route}
use Rattle.machine.specs.Step.{Step}
use Rattle.machine.specs.Legal.{Entry}
use Rattle.frames.specs.Frames.{IsVerdict}
use Rattle.frames.specs.SentTrees.{octets_of_sent}

-- A frame is octets with their source address.
pub data RawEvent : Type 0 where
  RawFrame : (from octets : List ℕ) → RawEvent
  RawClock : (shard now : ℕ) → RawEvent
  RawExpire : (shard : ℕ) → RawEvent
  RawChange : (imsi : List ℕ) → Change → RawEvent

-- Octets with their destination address.
pub record RawOut : Type 0 where
  pub to : List ℕ
  pub octets : List ℕ

-- An entry of a journal: the event, the id that its step took, its subject, and what it sent.
pub record RawEntry : Type 0 where
  pub event : RawEvent
  pub id : Option (List ℕ)
  pub subject : Option (List ℕ)
  pub outs : List RawOut

-- The event from outside is this event of the machine: a frame by the verdict on its octets.
abbrev pub IsEvent : RawEvent → Event → Type 0
IsEvent (RawFrame from octets) (Frame source v) = (source ≡ from) × IsVerdict octets v
IsEvent (RawClock shard now) (Clock n t) = (n ≡ shard) × (t ≡ now)
IsEvent (RawExpire shard) (Expire n) = n ≡ shard
IsEvent (RawChange imsi change) (Operator x c) = (x ≡ imsi) × (c ≡ change)
IsEvent (RawFrame from octets) _ = ⊥
IsEvent (RawClock shard now) _ = ⊥
IsEvent (RawExpire shard) _ = ⊥
IsEvent (RawChange imsi change) _ = ⊥

-- a message as it is sent
abbrev pub spelled_out : Out → RawOut
spelled_out out = record { to = out.to; octets = octets_of_sent out.message }

-- The octets are this entry of messages.
pub record SpellsEntry (raw : RawEntry) (entry : Entry) : Type 0 where
  pub event : IsEvent raw.event entry.event
  pub id : raw.id ≡ entry.answer.id
  pub subject : raw.subject ≡ entry.answer.subject
  pub outs : raw.outs ≡ map spelled_out entry.answer.sent

-- The entries of octets are these entries of messages, one by one.
abbrev pub SpellsJournal : List RawEntry → List Entry → Type 0
SpellsJournal [] [] = Unit {0}
SpellsJournal (raw ∷ raws) (entry ∷ entries) = SpellsEntry raw entry × SpellsJournal raws entries
SpellsJournal [] (entry ∷ entries) = ⊥
SpellsJournal (raw ∷ raws) [] = ⊥

-- The event is for this shard.
abbrev pub IsRouted : (directory : List ℕ → Option (List ℕ)) → RawEvent → ℕ → Type 0
IsRouted directory raw n = (e : Event) × IsEvent raw e × (route directory e ≡ n)

-- A step with this entry: a step of the machine whose entry the octets are.
abbrev pub StepOctets : State → RawEntry → State → Type 0
StepOctets S raw T = (entry : Entry) × SpellsEntry raw entry × Step S entry.event T entry.answer

-- The entries lead, one after the other, from a state to a state.
abbrev pub RunOctets : State → List RawEntry → State → Type 0
RunOctets S [] T = T ≡ S
RunOctets S (raw ∷ raws) T = (M : State) × StepOctets S raw M × RunOctets M raws T
