-- How handling an event changes a shard.
use Rattle.std.specs.Prelude.{◌≡◌, ◌≢◌, ◌↔◌, ℕ, List, [], ◌∷◌, ◌++◌, length, Some, Result, Err, OnOk}
use Rattle.machine.specs.declared.numbers.TheConstants.{MAX_ENTRIES}
use Rattle.machine.specs.Events.{Event}
use Rattle.machine.specs.Holders.{IsNamed}
use Rattle.machine.specs.State.{Dialogue, State}
use Rattle.frames.specs.Octets.{RawEvent, RawEntry, IsEvent, StepOctets}
use Rattle.hlrcore.specs.Ids.{MovesIds}
use Rattle.hlrcore.specs.Shards.{IsSameShard, ShardState, state_of}
use Rattle.shardlog.specs.declared.entry.Handled.{Handled}
use Rattle.shardlog.specs.declared.fault.ShardFault.{ShardFault}
use Rattle.shardlog.specs.declared.fault.ShardFault.TheVariants.{JournalFull, NoRoom, NotMine}
use Rattle.shardlog.specs.declared.keep.Keep.{Keep}
use Rattle.shardlog.specs.declared.keep.Keep.TheVariants.{Entries, Nothing}
use Rattle.shardlog.specs.Log.{Log, fresh, log}

-- An open dialogue that the event does not name is unchanged.
abbrev pub LeavesUnnamed : State → RawEvent → State → Type 0
LeavesUnnamed S raw T =
    (e : Event) (i : List ℕ) (d : Dialogue) → IsEvent raw e → S.dialogues i ≡ Some d → (IsNamed S e i → ⊥) → T.dialogues i ≡ Some d

-- A shard has taken a step with this entry, to this state: where entries are kept, the journal has it; otherwise there is none, and the
-- journal begins in the state after the step.
abbrev pub recorded : Keep → Log → RawEntry → ShardState → Log
recorded Entries l entry state = log Entries l.base (l.entries ++ entry ∷ []) state
recorded Nothing l entry state = fresh Nothing state

-- An event is handled. Its entry has the event, its subject, what is sent, and the rest of a step from the state before to the state after, whose id is the
-- next one; where entries are kept, it is appended to the journal, whose base stays.
pub record Handles (old : Log) (raw : RawEvent) (handled : Handled) (new : Log) : Type 0 where
  pub entry : RawEntry
  pub new_is : new ≡ recorded old.keep old entry new.state
  pub same : IsSameShard old.state new.state
  pub event_is : entry.event ≡ raw
  pub outs_are : handled.outs ≡ entry.outs
  pub subject_is : handled.subject ≡ entry.subject
  pub position : handled.position ≡ length old.entries
  pub step : StepOctets (state_of old.state) entry (state_of new.state)
  pub ids : MovesIds old.state.dialogues entry.id new.state.dialogues
  pub unnamed : LeavesUnnamed (state_of old.state) raw (state_of new.state)

-- Why an event of a shard that needs no reading is refused, memory apart: exactly if the shard is another, and exactly if the journal is
-- full, which comes first. No dialogue has to open.
pub record RefusesOwn (old : Log) (shard : ℕ) (result : Result Handled ShardFault) : Type 0 where
  pub not_mine : (result ≡ Err NotMine) ↔ (shard ≢ old.state.shard)
  pub full : (result ≡ Err JournalFull) ↔ ((shard ≡ old.state.shard) × (old.keep ≡ Entries) × (length old.entries ≡ MAX_ENTRIES))
  pub room : length old.entries ≡ MAX_ENTRIES → OnOk result ⊥
  pub has_room : result ≢ Err NoRoom
