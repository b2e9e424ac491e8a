-- One subscriber's own entries, and the state with this subscriber alone.
use Rattle.std.specs.Prelude.{◌≡◌, ℕ, List, [], ◌∷◌, filter, Bool, true, false, cond, ◌&&◌, ◌==◌, Option, Some, None}
use Rattle.machine.specs.Keys.{same, Every}
use Rattle.machine.specs.declared.numbers.TheConstants.{RESOURCE_LIMITATION}
use Rattle.machine.specs.Received.{Register, Update, Component, Begin, Read}
use Rattle.machine.specs.Sent.{Cause, SentMessage, SentAbort, Out}
use Rattle.machine.specs.Events.{Event, Frame, Clock}
use Rattle.machine.specs.State.{Subscriber, Dialogue, State, if_of, IsFull}
use Rattle.machine.specs.Begins.{first_argument}
use Rattle.machine.specs.Routing.{route}
use Rattle.machine.specs.Step.{Answer}
use Rattle.machine.specs.Legal.{Entry}
use Rattle.machine.specs.Holders.{is_subject}

-- whether it is a clock value
abbrev pub is_clock : Event → Bool
is_clock (Clock shard now) = true
is_clock _ = false

-- the entries whose subject is x, and every clock entry
abbrev pub is_of : List ℕ → Entry → Bool
is_of x entry = cond (is_clock entry.event) true (is_subject x entry.answer.subject)

-- x's entries, in their order
abbrev pub only_of : List Entry → List ℕ → List Entry
only_of journal x = filter (is_of x) journal

-- the record without the mark of its current update
abbrev pub without_mark : Option Subscriber → Option Subscriber
without_mark None = None
without_mark (Some s) = Some (record s { current = None })

-- the state without the dialogues and without the marks of other subscribers
unfoldable pub own : State → List ℕ → State
own S x = record {
  records = λ imsi. cond (same imsi x) (S.records imsi) (without_mark (S.records imsi));
  dialogues = λ id. if_of x (S.dialogues id);
  clocks = S.clocks;
  directory = S.directory;
  hlr = S.hlr;
}

-- An update that a full shard turned away is recognized by its answer: only then does an entry with a subject send an Abort
-- with the cause resourceLimitation.
abbrev pub is_limit : SentMessage → Bool
is_limit (SentAbort destination (Cause cause)) = cause == RESOURCE_LIMITATION
is_limit _ = false

-- whether the answer begins with such an Abort
abbrev pub is_turned_away : List Out → Bool
is_turned_away [] = false
is_turned_away (out ∷ outs) = is_limit out.message

-- no update of x met a full shard
abbrev pub NoneTurnedAway : List Entry → List ℕ → Type 0
NoneTurnedAway journal x =
    Every (λ entry. is_subject x entry.answer.subject && is_turned_away entry.answer.sent ≡ false) journal

-- The event is an update of x that a full shard turned away: nothing changed.
pub record MetFullShard (S : State) (e : Event) (T : State) (a : Answer) (x : List ℕ) : Type 0 where
  pub from : List ℕ
  pub origin : List ℕ
  pub name : Option (List ℕ)
  pub components : List Component
  pub register : Register
  pub event : e ≡ Frame from (Read (Begin origin name components))
  pub argument : first_argument components ≡ Some (Update x register)
  pub subject : a.subject ≡ Some x
  pub full : IsFull S (route S.directory e)
  pub unchanged : T ≡ S

-- T has the record of x and the dialogues of x as S has them
pub record SameOf (x : List ℕ) (S T : State) : Type 0 where
  pub record_of : T.records x ≡ S.records x
  pub dialogues : (i : List ℕ) → if_of x (T.dialogues i) ≡ if_of x (S.dialogues i)

-- and also the clocks, the directory and the register's own number
pub record SameAfter (x : List ℕ) (S T : State) : Type 0 where
  pub record_of : T.records x ≡ S.records x
  pub dialogues : (i : List ℕ) → if_of x (T.dialogues i) ≡ if_of x (S.dialogues i)
  pub clocks : (m : ℕ) → T.clocks m ≡ S.clocks m
  pub directory : T.directory ≡ S.directory
  pub hlr : T.hlr ≡ S.hlr

-- and T has no dialogue of another subscriber
pub record AgreeOf (x : List ℕ) (S T : State) : Type 0 where
  pub record_of : T.records x ≡ S.records x
  pub dialogues : (i : List ℕ) → if_of x (T.dialogues i) ≡ if_of x (S.dialogues i)
  pub alone : (i : List ℕ) (d : Dialogue) → T.dialogues i ≡ Some d → d.subscriber ≡ x
  pub clocks : (m : ℕ) → T.clocks m ≡ S.clocks m
  pub directory : T.directory ≡ S.directory
  pub hlr : T.hlr ≡ S.hlr
