-- A computed step: what an event with this turn does in a shard that has room, with the new id for a dialogue that opens.
use Rattle.std.specs.Prelude.{ℕ, ℤ, List, [], Option, Some, None}
use Rattle.machine.specs.Received.{Message, Read}
use Rattle.machine.specs.Events.{Change, Expire, Frame}
use Rattle.machine.specs.Legal.{Entry}
use Rattle.machine.specs.State.{Invocation, Dialogue, State}
use Rattle.machine.specs.Routing.{route_message}
use Rattle.machine.specs.Keys.{shard_of, shard_of_id}
use Rattle.machine.specs.Turns.{Turn, Dismissed, Ticks, Expires, Changes, turn_of_message, invocation_of, concern, named}
use Rattle.machine.specs.Step.{Answer, outcome_in, moved, ticked, taken, subject_of}

-- a state and the answer that leads to it
pub record Played : Type 0 where
  pub state : State
  pub answer : Answer

-- the turn in this shard
abbrev pub play : State → (shard : ℕ) → Turn → (new : List ℕ) → Played
play S shard turn new = record {
  state = ticked turn (moved S (concern S.directory turn) (named turn) new (outcome_in S shard turn new));
  answer = record {
    id = taken new (outcome_in S shard turn new).opens;
    subject = subject_of S turn;
    sent = (outcome_in S shard turn new).sent;
  };
}

-- a message from this address
abbrev pub receives : State → (from : List ℕ) → Message → (new : List ℕ) → Played
receives S from message new = play S (route_message S.directory message) (turn_of_message S.dialogues from message) new

-- a clock value
abbrev pub waits : State → (shard now : ℕ) → State
waits S shard now = (play S shard (Ticks shard now) []).state

-- the expiry of this invocation, if it is there
abbrev pub expiry_of : List ℕ → Dialogue → ℤ → Option Invocation → Turn
expiry_of id d invoke None = Dismissed []
expiry_of id d invoke (Some v) = Expires id d invoke v.was

-- and of this dialogue, if it is open
abbrev pub expiry_at : List ℕ → Option Dialogue → ℤ → Turn
expiry_at id None invoke = Dismissed []
expiry_at id (Some d) invoke = expiry_of id d invoke (invocation_of invoke d.invocations)

-- the expiry of this invocation of this dialogue, which must be the least that is due
abbrev pub expires_at : State → (id : List ℕ) → (invoke : ℤ) → (new : List ℕ) → Played
expires_at S id invoke new = play S (shard_of_id id) (expiry_at id (S.dialogues id) invoke) new

-- an operator's change
abbrev pub is_changed : State → (imsi : List ℕ) → Change → (new : List ℕ) → Played
is_changed S imsi change new = play S (shard_of imsi) (Changes imsi change) new

-- the entry of a message from this address
abbrev pub message_entry : (from : List ℕ) → Message → Played → Entry
message_entry from message played = record { event = Frame from (Read message); answer = played.answer }

-- the entry of an expiry in this shard
abbrev pub expiry_entry : (shard : ℕ) → Played → Entry
expiry_entry shard played = record { event = Expire shard; answer = played.answer }
