-- What every state of the register keeps.
use Rattle.std.specs.Prelude.{◌≡◌, ℕ, ◌≤◌, List, true, false, length, Option, Some, None, is_some, IsTrue}
use Rattle.machine.specs.Keys.{shard_of}
use Rattle.machine.specs.declared.numbers.TheConstants.{MAX_DIALOGUES}
use Rattle.machine.specs.State.{Subscriber, Kind, Updates, Dialogue, State, any_sent, IsIdOf, AreOpen}
use Rattle.machine.specs.Effect.{AreRising}

-- the dialogue is for an update
abbrev pub IsUpdate : Kind → Type 0
IsUpdate (Updates register invoke) = Unit {0}
IsUpdate _ = ⊥

-- there is a dialogue, and it is an update of this subscriber
abbrev pub IsUpdateOf : List ℕ → Option Dialogue → Type 0
IsUpdateOf imsi None = ⊥
IsUpdateOf imsi (Some d) = (d.subscriber ≡ imsi) × IsUpdate d.kind

-- a mark names an open update of the subscriber
abbrev pub MarkNames : List ℕ → (List ℕ → Option Dialogue) → (current : Option (List ℕ)) → Type 0
MarkNames imsi dialogues None = Unit {0}
MarkNames imsi dialogues (Some current) = IsUpdateOf imsi (dialogues current)

-- An open dialogue has a local id of its subscriber's shard, a subscriber with a record, an invocation that still waits for
-- its answer, and each invocation once.
pub record SoundDialogue (records : List ℕ → Option Subscriber) (i : List ℕ) (d : Dialogue) : Type 0 where
  pub id : IsIdOf (shard_of d.subscriber) i
  pub has_record : IsTrue (is_some (records d.subscriber))
  pub has_sent : IsTrue (any_sent d.invocations)
  pub rising : AreRising d.invocations

-- A mark names an open update; a record without a register is not purged; a withdrawn one has neither register nor mark.
pub record SoundRecord (dialogues : List ℕ → Option Dialogue) (x : List ℕ) (s : Subscriber) : Type 0 where
  pub mark : MarkNames x dialogues s.current
  pub purged : s.register ≡ None → s.purged ≡ false
  pub withdrawn : s.withdrawn ≡ true → (s.register ≡ None) × (s.current ≡ None)

-- Every open dialogue and every record is sound, and no shard has more open dialogues than the limit.
pub record Sound (S : State) : Type 0 where
  pub dialogues : (i : List ℕ) (d : Dialogue) → S.dialogues i ≡ Some d → SoundDialogue S.records i d
  pub records : (x : List ℕ) (s : Subscriber) → S.records x ≡ Some s → SoundRecord S.dialogues x s
  pub few : (n : ℕ) (is : List (List ℕ)) → AreOpen S n is → length is ≤ MAX_DIALOGUES
