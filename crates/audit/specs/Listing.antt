-- What a listing has of shards, and in which order.
use Rattle.std.specs.Prelude.{◌≡◌, ℕ, ◌+◌, List, [], ◌∷◌}
use Rattle.std.specs.FinMap as map
use Rattle.std.specs.List.{flat_map}
use Rattle.std.specs.Ordering.{nat_cmp, ordering_then}
use Rattle.std.specs.declared.cmp.Ordering.{Ordering}
use Rattle.hlr_types.specs.Orders.{octets_cmp}
use Rattle.machine.specs.State.{Dialogue}
use Rattle.frames.specs.Octets.{RawEntry}
use Rattle.records.specs.Maps.{digits_cmp}
use Rattle.records.specs.Subscriber.{Subscriber}
use Rattle.shardlog.specs.Log.{Log}
use Rattle.audit.specs.Lines.{dialogue_text, entry_text, record_text}
use Rattle.audit.specs.Orders.{InOrder}

-- ---- records, by IMSI

abbrev pub records_in : List Log → List Subscriber
records_in shards = flat_map (λ l. map.values l.state.records) shards

abbrev pub imsi_of : Subscriber → List ℕ
imsi_of s = s.imsi

pub record ListsRecords (shards : List Log) (written : List ℕ) : Type 0 where
  pub records : List Subscriber
  pub ordered : InOrder imsi_of digits_cmp (records_in shards) records
  pub lines : written ≡ flat_map record_text records

-- ---- open dialogues, by local id

-- a dialogue and its local id
abbrev pub Open : Type 0
Open = List ℕ × Dialogue

abbrev pub open_in : List Log → List Open
open_in shards = flat_map (λ l. map.entries l.state.dialogues.open_ones) shards

abbrev pub id_of : Open → List ℕ
id_of o = o.0

abbrev pub open_text : Open → List ℕ
open_text o = dialogue_text o.0 o.1

pub record ListsDialogues (shards : List Log) (written : List ℕ) : Type 0 where
  pub dialogues : List Open
  pub ordered : InOrder id_of octets_cmp (open_in shards) dialogues
  pub lines : written ≡ flat_map open_text dialogues

-- ---- entries of journals, by shard and position

-- an entry, with the number of its shard and its position in the journal
pub record Placed : Type 0 where
  pub shard : ℕ
  pub position : ℕ
  pub entry : RawEntry

-- the entries of a journal, from this position on
abbrev pub placed_from : (shard position : ℕ) → List RawEntry → List Placed
placed_from shard position [] = []
placed_from shard position (e ∷ es) = record { shard = shard; position = position; entry = e } ∷ placed_from shard (position + 1) es

abbrev pub entries_in : List Log → List Placed
entries_in shards = flat_map (λ l. placed_from l.state.shard 0 l.entries) shards

abbrev pub place_of : Placed → ℕ × ℕ
place_of p = (p.shard, p.position)

-- first by shard, then by position
abbrev pub place_cmp : ℕ × ℕ → ℕ × ℕ → Ordering
place_cmp a b = ordering_then (nat_cmp a.0 b.0) (nat_cmp a.1 b.1)

abbrev pub placed_text : Placed → List ℕ
placed_text p = entry_text p.shard p.position p.entry

pub record ListsJournal (shards : List Log) (written : List ℕ) : Type 0 where
  pub entries : List Placed
  pub ordered : InOrder place_of place_cmp (entries_in shards) entries
  pub lines : written ≡ flat_map placed_text entries
