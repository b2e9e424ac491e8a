-- The journal of a shard.
use Rattle.std.specs.Prelude.{◌≡◌, ℕ, ◌<◌, List, map}
use Rattle.machine.specs.Keys.{Every}
use Rattle.machine.specs.declared.numbers.TheConstants.{SHARDS}
use Rattle.machine.specs.Events.{Event}
use Rattle.machine.specs.State.{State}
use Rattle.machine.specs.Routing.{route}
use Rattle.machine.specs.Step.{Answer}
use Rattle.machine.specs.Run.{Run}
use Rattle.machine.specs.Sound.{Sound}
use Rattle.machine.specs.Parts.{part}

-- an entry: the event, and the answer of its step
pub record Entry : Type 0 where
  pub event : Event
  pub answer : Answer

-- the events of the entries
abbrev pub events_of : List Entry → List Event
events_of entries = map (λ entry. entry.event) entries

-- and their answers
abbrev pub answers_of : List Entry → List Answer
answers_of entries = map (λ entry. entry.answer) entries

-- A legal journal of shard n: its events are for this shard and lead from one sound state of it to another, with the
-- journal's answers.
pub record Legal (n : ℕ) (base : State) (journal : List Entry) (after : State) : Type 0 where
  pub is_shard : n < SHARDS
  pub run : Run base (events_of journal) after (answers_of journal)
  pub routed : Every (λ entry. route base.directory entry.event ≡ n) journal
  pub base_sound : Sound base
  pub after_sound : Sound after
  pub base_part : base ≡ part base n
  pub after_part : after ≡ part after n
