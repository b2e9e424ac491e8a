-- How handling events changes the shards of a register, and the state that they are together.
use Rattle.std.specs.Prelude.{◌≡◌, ℕ, List, [], ◌∷◌, ◌++◌, map, length, Some, slice_get, slice_set}
use Rattle.machine.specs.declared.numbers.TheConstants.{MAX_ENTRIES}
use Rattle.machine.specs.Events.{Event}
use Rattle.machine.specs.State.{State}
use Rattle.machine.specs.Step.{HasNoRoom}
use Rattle.frames.specs.Octets.{RawEvent, RawEntry, RawOut, IsEvent, IsRouted, RunOctets, StepOctets}
use Rattle.frames.specs.OctetJournals.{RawEpoch}
use Rattle.hlrcore.specs.Shards.{directory_of}
use Rattle.hlrcore.specs.Taken.{HasFrame}
use Rattle.shardlog.specs.declared.entry.Epoch.{Epoch}
use Rattle.shardlog.specs.declared.entry.Handled.{Handled}
use Rattle.shardlog.specs.declared.keep.Keep.TheVariants.{Entries}
use Rattle.shardlog.specs.Chains.{LeadTo, raw_epoch}
use Rattle.shardlog.specs.Entries.{raw_entries}
use Rattle.shardlog.specs.Handling.{Handles, LeavesUnnamed}
use Rattle.shardlog.specs.Log.{Log, cut_log}
use Rattle.wholenode.specs.declared.fault.Cause.{Cause}
use Rattle.wholenode.specs.declared.fault.Cause.TheVariants.{Memory, JournalFull, ResetRefused, NoRoom}
use Rattle.wholenode.specs.Nodes.{NodeState, whole}

-- what was sent for an event, in order
abbrev pub sent_of : Handled → List RawOut
sent_of handled = handled.outs

-- This shard is the one that the event is routed to.
pub record IsFor (node : NodeState) (raw : RawEvent) (n : ℕ) (l : Log) : Type 0 where
  pub routed : IsRouted (directory_of node.directory) raw n
  pub stands : slice_get node.shards n ≡ Some l

-- An event's shard handles it, and nothing else changes. For the whole state it is a step of the machine, and an open dialogue
-- that the event does not name is unchanged.
pub record Takes (before : NodeState) (raw : RawEvent) (handled : Handled) (after : NodeState) : Type 0 where
  pub place : ℕ
  pub shard : Log
  pub is_for : IsFor before raw place shard
  pub next : Log
  pub handles : Handles shard raw handled next
  pub changed : after ≡ record before { shards = slice_set before.shards place next }
  pub step : StepOctets (whole before.shards) handles.entry (whole after.shards)
  pub unnamed : LeavesUnnamed (whole before.shards) raw (whole after.shards)

-- Events are handled one after another, each of them so.
abbrev pub Each : {A : Type 0} → (NodeState → RawEvent → A → NodeState → Type 0) → NodeState → List RawEvent → List A → NodeState → Type 0
Each one before [] [] after = after ≡ before
Each one before (raw ∷ raws) (a ∷ more) after = (between : NodeState) × one before raw a between × Each one between raws more after
Each one before _ _ after = ⊥

-- Events are handled one after another, and each has an entry.
abbrev pub Runs : NodeState → List RawEvent → List Handled → NodeState → Type 0
Runs = Each Takes

-- The events, in this order, lead from one state to the other by a run of the machine over octets, and this is what it sends.
pub record IsRun (S : State) (raws : List RawEvent) (sent : List (List RawOut)) (T : State) : Type 0 where
  pub entries : List RawEntry
  pub events : map (λ entry. entry.event) entries ≡ raws
  pub outs : map (λ entry. entry.outs) entries ≡ sent
  pub run : RunOctets S entries T

-- Entries are kept, and there are as many as there may be.
abbrev pub IsFullJournal : Log → Type 0
IsFullJournal l = (l.keep ≡ Entries) × (length l.entries ≡ MAX_ENTRIES)

-- The machine has no step for the event, and the journal of its shard is not full, which comes first.
pub record LacksStep (node : NodeState) (raw : RawEvent) : Type 0 where
  pub place : ℕ
  pub shard : Log
  pub is_for : IsFor node raw place shard
  pub not_full : IsFullJournal shard → ⊥
  pub event : Event
  pub is_event : IsEvent raw event
  pub no_room : HasNoRoom (whole node.shards) event

-- Why an event is refused: memory can run out with every one, and after a frame alone the arena can be refused its reset; the journal of its shard is full,
-- or the machine has no step for it.
abbrev pub Refuses : NodeState → RawEvent → Cause → Type 0
Refuses node raw Memory = Unit {0}
Refuses node raw ResetRefused = HasFrame raw
Refuses node raw JournalFull = (n : ℕ) × (l : Log) × IsFor node raw n l × IsFullJournal l
Refuses node raw NoRoom = LacksStep node raw

-- The first events are handled; the next one is refused, for this cause, and changes nothing.
pub record Stops (before : NodeState) (raws : List RawEvent) (done : List Handled) (cause : Cause) (after : NodeState) : Type 0 where
  pub handled : List RawEvent
  pub next : RawEvent
  pub rest : List RawEvent
  pub raws_are : raws ≡ handled ++ next ∷ rest
  pub runs : Runs before handled done after
  pub run : IsRun (whole before.shards) handled (map sent_of done) (whole after.shards)
  pub refuses : Refuses after next cause

-- The journal of the shard with this number begins anew in the current state, and nothing else changes.
pub record Drops (before : NodeState) (n : ℕ) (after : NodeState) : Type 0 where
  pub shard : Log
  pub stands : slice_get before.shards n ≡ Some shard
  pub changed : after ≡ record before { shards = slice_set before.shards n (cut_log shard) }
  pub same : whole after.shards ≡ whole before.shards

-- The journal of the shard with this number is cut off, and nothing else changes. If epochs lead to the shard, they also do with
-- this one appended.
pub record Cuts (before : NodeState) (n : ℕ) (epoch : Epoch) (after : NodeState) : Type 0 where
  pub shard : Log
  pub stands : slice_get before.shards n ≡ Some shard
  pub base : epoch.base ≡ shard.base
  pub entries : raw_entries epoch.entries.items ≡ shard.entries
  pub changed : after ≡ record before { shards = slice_set before.shards n (cut_log shard) }
  pub leads : (epochs : List RawEpoch) → LeadTo epochs shard → LeadTo (epochs ++ raw_epoch epoch ∷ []) (cut_log shard)
  pub same : whole after.shards ≡ whole before.shards
