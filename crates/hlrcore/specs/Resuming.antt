-- A shard's open dialogues, its marks and its clock, put back as they were (profile).
use Rattle.std.specs.Prelude.{◌≡◌, ℕ, List, Bool, true, false, cond, not, ◌&&◌, Option, Some, None, is_some, is_none, unwrap_or, [], IfSome}
use Rattle.std.specs.FinMap as map
use Rattle.machine.specs.State.{Dialogue, IsFull, Kind, Updates, Cancels, Data, any_sent}
use Rattle.records.specs.Subscriber.{Subscriber, placed}
use Rattle.records.specs.Maps.{RecordMap}
use Rattle.tidalloc.specs.LiveIds.{LiveIds, after_taking}
use Rattle.dialogues.specs.Dialogues.{IsNew, OpenDialogues, next_of}
use Rattle.hlrcore.specs.Shards.{ShardState, state_of}

-- The shard at this clock, with no open dialogue; these ids decide under which ids dialogues open.
abbrev pub resumed : ShardState → (clock : ℕ) → LiveIds → ShardState
resumed s clock ids = record s { clock = clock; dialogues = record { shard = ids.shard; supply = ids.supply; open_ones = map.empty } }

-- Whether the kind is an update.
abbrev pub is_update : Kind → Bool
is_update (Updates register invoke) = true
is_update (Cancels vlr attempt why) = false
is_update Data = false

-- Whether the record can have this kind of dialogue as its current update: it is an update, the subscriber is not withdrawn, and no other is current.
abbrev pub may_be_current : Kind → Subscriber → Bool
may_be_current kind r = is_update kind && not r.withdrawn && is_none r.current

-- Whether a subscriber, if there is one, can have a dialogue of this kind, as the current update or not.
abbrev pub may_have : (is_current : Bool) → Kind → Option Subscriber → Bool
may_have is_current kind None = false
may_have is_current kind (Some r) = cond is_current (may_be_current kind r) true

-- Whether the dialogue can be put back: the shard is not full, an invocation waits for its answer, and the subscriber can have it.
abbrev pub may_reopen : ShardState → (is_current : Bool) → Dialogue → Bool
may_reopen s is_current d =
    is_some (next_of s.dialogues) && any_sent d.invocations && may_have is_current d.kind (map.get s.records d.subscriber)

-- The record with this id as that of its current update.
abbrev pub with_current : List ℕ → Subscriber → Subscriber
with_current id r = placed r r.register r.purged (Some id)

-- The records in which the subscriber's has this mark.
abbrev pub marked : (imsi id : List ℕ) → (found : Option Subscriber) → RecordMap → RecordMap
marked imsi id None records = records
marked imsi id (Some r) records = map.insert records imsi (with_current id r)

abbrev pub marked_if : (is_current : Bool) → (imsi id : List ℕ) → RecordMap → RecordMap
marked_if is_current imsi id records = cond is_current (marked imsi id (map.get records imsi) records) records

-- The shard with the dialogue open under this id.
abbrev pub reopened_under : (id : List ℕ) → ShardState → (is_current : Bool) → Dialogue → ShardState
reopened_under id s is_current d = record s {
  records = marked_if is_current d.subscriber id s.records;
  dialogues = record s.dialogues { supply = after_taking s.dialogues.supply; open_ones = map.insert s.dialogues.open_ones id d };
}

-- The same under the next id.
abbrev pub reopened : ShardState → (is_current : Bool) → Dialogue → ShardState
reopened s is_current d = reopened_under (unwrap_or (next_of s.dialogues) []) s is_current d

-- There is room for one more dialogue, and the next id is a new one.
pub record HasPlace (s : ShardState) : Type 0 where
  pub own : s.dialogues.shard ≡ s.shard
  pub is_new : IfSome (next_of s.dialogues) (IsNew s.dialogues)
  pub not_full : ¬ (IsFull (state_of s) s.dialogues.shard)
