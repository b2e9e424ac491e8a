-- One event of the register.
use Rattle.std.specs.Prelude.{◌≡◌, ℕ, min, max, List, [], Option, Some, None, is_some, IsTrue}
use Rattle.machine.specs.Keys.{put, put_at, shard_of}
use Rattle.machine.specs.declared.numbers.TheConstants.{RESOURCE_LIMITATION, MAX_CLOCK}
use Rattle.machine.specs.Received.{Component}
use Rattle.machine.specs.Sent.{Cause, SentAbort, Out}
use Rattle.machine.specs.Events.{Event, Operator}
use Rattle.machine.specs.State.{Subscriber, Dialogue, Local, local_of, local_of_nobody, State, IsIdOf, IsFull}
use Rattle.machine.specs.Outcome.{Outcome, send, unchanged}
use Rattle.machine.specs.Begins.{begins}
use Rattle.machine.specs.Dialogues.{continues, closes}
use Rattle.machine.specs.Expiries.{expires}
use Rattle.machine.specs.Changes.{changes}
use Rattle.machine.specs.Routing.{route}
use Rattle.machine.specs.Turns.{Turn, Dismissed, Ticks, Begins, Continues, Closes, Expires, Changes, TurnsTo, concern, named}

-- the turn's procedure, on what it sees
abbrev pub outcome : Local → Turn → (new : List ℕ) → Outcome
outcome here (Dismissed sent) new = unchanged here sent
outcome here (Ticks shard now) new = unchanged here []
outcome here (Begins from origin name components) new = begins here from origin name components new
outcome here (Continues id d components) new = continues here id d components new
outcome here (Closes id d) new = closes here id
outcome here (Expires id d invoke was) new = expires here id d invoke was new
outcome here (Changes imsi change) new = changes here change here.record_of new

-- what the procedure sees of its subscriber, if any
abbrev pub seen : State → ℕ → Option (List ℕ) → Local
seen S shard None = local_of_nobody S shard
seen S shard (Some imsi) = local_of S shard imsi

-- the outcome of a turn in a shard, with this id for a dialogue that opens
abbrev pub outcome_in : State → ℕ → Turn → (new : List ℕ) → Outcome
outcome_in S shard turn new = outcome (seen S shard (concern S.directory turn)) turn new

-- A step's answer: the id that was taken, the subject, and what is sent, in order.
pub record Answer : Type 0 where
  pub id : Option (List ℕ)
  pub subject : Option (List ℕ)
  pub sent : List Out

-- the id that is taken: the new one, if a dialogue opens
abbrev pub taken : (new : List ℕ) → Option Dialogue → Option (List ℕ)
taken new None = None
taken new (Some d) = Some new

-- the subscriber, if there is a record
abbrev pub if_known : List ℕ → Option Subscriber → Option (List ℕ)
if_known imsi None = None
if_known imsi (Some s) = Some imsi

-- the same of a subscriber, if any
abbrev pub known_in : State → Option (List ℕ) → Option (List ℕ)
known_in S None = None
known_in S (Some imsi) = if_known imsi (S.records imsi)

-- The subject of a turn: the subscriber of the open dialogue that it is for; otherwise the one that a Begin or a change names,
-- if there is a record.
abbrev pub subject_of : State → Turn → Option (List ℕ)
subject_of S (Continues id d components) = Some d.subscriber
subject_of S (Closes id d) = Some d.subscriber
subject_of S (Expires id d invoke was) = Some d.subscriber
subject_of S turn = known_in S (concern S.directory turn)

-- the dialogues after: the named one is replaced or removed
abbrev pub named_stays : Option (List ℕ) → Option Dialogue → (List ℕ → Option Dialogue) → List ℕ → Option Dialogue
named_stays None stays dialogues = dialogues
named_stays (Some id) stays dialogues = put dialogues id stays

-- and the one that opens
abbrev pub new_opens : (new : List ℕ) → Option Dialogue → (List ℕ → Option Dialogue) → List ℕ → Option Dialogue
new_opens new None dialogues = dialogues
new_opens new (Some d) dialogues = put dialogues new (Some d)

-- the state with the subscriber's record and the dialogues of the outcome
abbrev pub moved : State → (imsi id : Option (List ℕ)) → (new : List ℕ) → Outcome → State
moved S None id new o = S
moved S (Some imsi) id new o = record S {
  records = put S.records imsi o.after;
  dialogues = new_opens new o.opens (named_stays id o.stays S.dialogues);
}

-- The clock of a shard never goes back.
abbrev pub ticked : Turn → State → State
ticked (Ticks shard now) S = record S { clocks = put_at S.clocks shard (max (S.clocks shard) (min now MAX_CLOCK)) }
ticked _ S = S

-- A dialogue would open in a full shard, and not in place of a named one.
pub record WouldOverflow (S : State) (n : ℕ) (turn : Turn) (o : Outcome) : Type 0 where
  pub opens : IsTrue (is_some o.opens)
  pub beside : named turn ≡ None
  pub full : IsFull S n

-- a new id: one of the shard that names no open dialogue
pub record IsNewId (S : State) (n : ℕ) (new : List ℕ) : Type 0 where
  pub of_shard : IsIdOf n new
  pub is_new : S.dialogues new ≡ None

-- The turn in shard n with this outcome leads to a state and an answer.
pub record Moves (S : State) (n : ℕ) (turn : Turn) (new : List ℕ) (o : Outcome) (after : State) (a : Answer) : Type 0 where
  pub opens : IsTrue (is_some o.opens) → IsNewId S n new
  pub room : WouldOverflow S n turn o → ⊥
  pub state : after ≡ ticked turn (moved S (concern S.directory turn) (named turn) new o)
  pub id : a.id ≡ taken new o.opens
  pub subject : a.subject ≡ subject_of S turn
  pub sent : a.sent ≡ o.sent

-- An update that would overflow the shard is aborted, and nothing changes.
pub record TurnedAway (S : State) (n : ℕ) (turn : Turn) (o : Outcome) (after : State) (a : Answer) : Type 0 where
  pub from : List ℕ
  pub origin : List ℕ
  pub name : Option (List ℕ)
  pub components : List Component
  pub begins : turn ≡ Begins from origin name components
  pub overflows : WouldOverflow S n turn o
  pub state : after ≡ S
  pub id : a.id ≡ None
  pub subject : a.subject ≡ subject_of S turn
  pub sent : a.sent ≡ send from (SentAbort origin (Cause RESOURCE_LIMITATION))

-- One event leads from a state to a state, with an answer.
pub data Step (S : State) (e : Event) (after : State) (a : Answer) : Type 0 where
  Taken : (turn : Turn) (new : List ℕ) → TurnsTo S e turn
      → Moves S (route S.directory e) turn new (outcome_in S (route S.directory e) turn new) after a → Step S e after a
  Full : (turn : Turn) (new : List ℕ) → TurnsTo S e turn
      → TurnedAway S (route S.directory e) turn (outcome_in S (route S.directory e) turn new) after a → Step S e after a

-- An operator's change that would overflow the shard is refused: it has no step.
abbrev pub HasNoRoom : State → Event → Type 0
HasNoRoom S (Operator imsi change) =
    (new : List ℕ) × WouldOverflow S (shard_of imsi) (Changes imsi change) (outcome_in S (shard_of imsi) (Changes imsi change) new)
HasNoRoom S _ = ⊥
