-- The table of slots that the ids stand in.
use Rattle.std.specs.Prelude.{◌≡◌, ◌≢◌, ℕ, ◌+◌, ◌<◌, ◌≤◌, ◌==◌, List, [], ◌∷◌, Bool, true, false, cond, ◌&&◌, Option, Some, None, length, map, slice_get, slice_index}
use Rattle.std.specs.List.{list_any}
use Rattle.std.specs.Ordering.{eq_by_cmp}
use Rattle.std.specs.FinSet as set
use Rattle.hlr_types.specs.Orders.{octets_cmp}
use Rattle.tidalloc.specs.declared.slot.Slot.{Slot}
use Rattle.tidalloc.specs.LiveIds.{LiveIds, Supply, id_at, slot_of, next_generation}

-- The live ids of these slots, numbered from this number on.
abbrev pub ids_from : ℕ → ℕ → List Slot → List (List ℕ)
ids_from shard number [] = []
ids_from shard number (s ∷ slots) = cond s.is_live (id_at shard number s.generation ∷ ids_from shard (number + 1) slots) (ids_from shard (number + 1) slots)

-- The live ids of all slots.
abbrev pub live_of : ℕ → List Slot → set.FinSet octets_cmp
live_of shard slots = set.from_list (ids_from shard 0 slots)

-- The generation of a slot, this one if it was never used.
abbrev pub generation_in : ℕ → Option Slot → ℕ
generation_in first None = first
generation_in first (Some s) = s.generation

-- What decides which id is next.
abbrev pub supply_of : ℕ → List Slot → List ℕ → Supply
supply_of first slots free = record { first = first; generations = map (λ s. s.generation) slots; free = free }

-- The ids that these slots stand for.
abbrev pub ids_of : ℕ → ℕ → List Slot → List ℕ → Option (List ℕ) → LiveIds
ids_of shard first slots free freed_last = record {
  shard = shard;
  live = live_of shard slots;
  freed_last = freed_last;
  supply = supply_of first slots free;
}

-- Whether the slot is live, and this is its id.
abbrev pub is_at : ℕ → List ℕ → Option Slot → Bool
is_at shard id None = false
is_at shard id (Some s) = s.is_live && eq_by_cmp octets_cmp id (id_at shard (slot_of id) s.generation)

-- Whether this is the next id of a slot that is free. Of a slot that was never used it may be.
abbrev pub comes_at : ℕ → List ℕ → Option Slot → Bool
comes_at shard id None = true
comes_at shard id (Some s) = cond s.is_live false (eq_by_cmp octets_cmp id (id_at shard (slot_of id) (next_generation s.generation)))

abbrev pub is_free : Option Slot → Bool
is_free None = false
is_free (Some s) = cond s.is_live false true

-- The id freed last is not live, and is not the next id of its slot if that is free.
pub record WasFreed (shard : ℕ) (slots : List Slot) (id : List ℕ) : Type 0 where
  pub not_live : is_at shard id (slice_get slots (slot_of id)) ≡ false
  pub not_next : comes_at shard id (slice_get slots (slot_of id)) ≡ false

-- The generation before a first use, the slots, the numbers of the free ones, the id freed last, and how many slots and free numbers there
-- is memory for.
pub record AreSlots (shard first : ℕ) (slots : List Slot) (free : List ℕ) (freed_last : Option (List ℕ)) (room of_free : ℕ) : Type 0 where
  pub in_range : shard < 16
  pub first_small : first < 4096
  pub few : length slots ≤ 4096
  pub room_for_slots : 4096 ≤ room
  pub room_for_free : 4096 ≤ of_free
  pub counted : length free + set.len (live_of shard slots) ≡ length slots
  pub generations : (k : ℕ) → generation_in first (slice_get slots k) < 4096
  pub begun : (k : ℕ) → 0 < generation_in 1 (slice_get slots k)
  pub free_ones : (i : ℕ) → i < length free → is_free (slice_get slots (slice_index free i)) ≡ true
  pub all_free : (k : ℕ) → is_free (slice_get slots k) ≡ true → list_any (λ n. k == n) free ≡ true
  pub different : (i j : ℕ) → i < j → j < length free → slice_index free i ≢ slice_index free j
  pub freed : (id : List ℕ) → freed_last ≡ Some id → WasFreed shard slots id
