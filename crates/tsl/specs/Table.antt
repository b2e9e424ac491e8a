-- The slab that the transactions stand in, and its keys by the slot of the id.
use Rattle.std.specs.Prelude.{◌≡◌, ℕ, ◌+◌, ◌≤◌, List, [], ◌∷◌, true, Option, Some, None, length, slice_index, option_map}
use Rattle.std.specs.FinMap as map
use Rattle.std.specs.FinSet as set
use Rattle.std.specs.Prelude as lists
use Rattle.slab.specs.Slab.{Slab, get, slab_len, entries}
use Rattle.machine.specs.State.{Transaction}
use Rattle.hlr_types.specs.Ids.{IsIdOf}
use Rattle.tidalloc.specs.LiveIds.{LiveIds, is_live, slot_of}
use Rattle.tsl.specs.declared.transactions.Entry.{Entry}
use Rattle.tsl.specs.Transactions.{OpenTransactions, transaction_of}

-- The entry that the key of an id's slot leads to.
abbrev pub entry_at : List ℕ → Slab Entry → List ℕ → Option Entry
entry_at keys slab id = get slab (slice_index keys (slot_of id))

-- The transactions of these ids.
abbrev pub with_entry : List ℕ → Option Entry → List (List ℕ × Transaction) → List (List ℕ × Transaction)
with_entry id None rest = rest
with_entry id (Some e) rest = (id, transaction_of e.transaction) ∷ rest

abbrev pub transactions_of : List ℕ → Slab Entry → List (List ℕ) → List (List ℕ × Transaction)
transactions_of keys slab [] = []
transactions_of keys slab (id ∷ ids) = with_entry id (entry_at keys slab id) (transactions_of keys slab ids)

-- The transactions of the entries of the live ids.
abbrev pub open_of : LiveIds → List ℕ → Slab Entry → ℕ → OpenTransactions
open_of ids keys slab room = record {
  shard = ids.shard;
  open_ones = map.from_entries (transactions_of keys slab (set.items ids.live));
  freed_last = ids.freed_last;
  supply = ids.supply;
  room = room;
}

-- The entry has a live id, and the key of that id's slot leads to it.
pub record IsOwn (ids : LiveIds) (keys : List ℕ) (key : ℕ) (e : Entry) : Type 0 where
  pub live : is_live ids e.id ≡ true
  pub found : slice_index keys (slot_of e.id) ≡ key

-- Each slot that was used, live or free again, has a key, and there are at least as many keys as transactions that are open or can begin
-- without allocating. The key of a live id's slot leads to the id's own entry, and there are no other entries.
pub record AreEntries (ids : LiveIds) (keys : List ℕ) (slab : Slab Entry) (room : ℕ) : Type 0 where
  pub used : set.len ids.live + length ids.supply.free ≤ length keys
  pub room_in_keys : set.len ids.live + room ≤ length keys
  pub of_shard : (id : List ℕ) → is_live ids id ≡ true → IsIdOf ids.shard id
  pub own : (id : List ℕ) → is_live ids id ≡ true → option_map (λ (e : Entry). e.id) (entry_at keys slab id) ≡ Some id
  pub no_other : (key : ℕ) (e : Entry) → get slab key ≡ Some e → IsOwn ids keys key e
  pub room_in_slab : slab_len slab + room ≤ slab.capacity
  pub few : set.len ids.live + room ≤ 4096

-- The ids of all entries, by key.
abbrev pub ids_of_entries : Slab Entry → List (List ℕ)
ids_of_entries slab = lists.map (λ (e : ℕ × Entry). e.1.id) (entries slab)
