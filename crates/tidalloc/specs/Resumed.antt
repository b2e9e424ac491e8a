-- How the ids of a shard are put back as they were: the slots are used under the ids that they had, the free ones are freed, and the live ids are set
-- back, so that the same ones are taken again.
use Rattle.std.specs.Prelude.{◌≡◌, ℕ, ◌+◌, ◌-◌, ◌<◌, ◌==◌, List, [], ◌∷◌, ◌++◌, true, Option, Some, length, map, slice_index, slice_set, if◌then◌else◌}
use Rattle.std.specs.FinMap as finite
use Rattle.std.specs.FinSet as set
use Rattle.hlr_types.specs.Orders.{octets_cmp}
use Rattle.hlr_types.specs.Ids.{IsIdOf}
use Rattle.tidalloc.specs.LiveIds.{LiveIds, Supply, id_at, slot_of, generation_of, is_live, no_ids, beginning_after, given_back, next_id, after_taking}

-- ---- slots are used

-- The id is that of the next slot that was never used, at a generation of 1 to 4,095.
pub record IsNextUnused (ids : LiveIds) (id : List ℕ) : Type 0 where
  pub of_shard : IsIdOf ids.shard id
  pub slot : slot_of id ≡ length ids.supply.generations
  pub few : length ids.supply.generations < 4096
  pub begun : 0 < generation_of id

-- That slot is in use under this id.
abbrev pub with_used : LiveIds → List ℕ → LiveIds
with_used ids id = record ids {
  live = set.insert ids.live id;
  supply = record ids.supply { generations = ids.supply.generations ++ generation_of id ∷ [] };
}

-- ---- ids are set back

-- The generation before this one, which `next_generation` makes this one of.
abbrev pub generation_before : ℕ → ℕ
generation_before generation = if generation == 1 then 4095 else generation - 1

-- As if a live id had not been taken yet: its slot has the generation before, and is used next.
abbrev pub untaken : Supply → List ℕ → Supply
untaken s id = record s {
  generations = slice_set s.generations (slot_of id) (generation_before (generation_of id));
  free = s.free ++ slot_of id ∷ [];
}

-- The same for several ids, of which the first is to be taken first.
abbrev pub untaken_all : Supply → List (List ℕ) → Supply
untaken_all s [] = s
untaken_all s (id ∷ ids) = untaken (untaken_all s ids) id

-- An id as the key of a finite map, with nothing at it.
abbrev pub as_key : List ℕ → List ℕ × Unit {0}
as_key id = (id, tt)

-- The ids of a set in ascending order, which is that of a finite map's keys.
abbrev pub ascending : set.FinSet octets_cmp → List (List ℕ)
ascending ids = finite.keys (finite.from_entries {R = octets_cmp} (map as_key (set.items ids)))

-- As if no live id had been taken yet: they are the next ones, in ascending order.
abbrev pub set_back : LiveIds → LiveIds
set_back ids = record ids { live = set.empty; supply = untaken_all ids.supply (ascending ids.live) }

-- Of the ids that were set back the first is next. Once it is taken, the others are next.
pub record AreTakenAgain (ids : LiveIds) (id : List ℕ) (more : List (List ℕ)) : Type 0 where
  pub next : next_id ids.shard (untaken_all ids.supply (id ∷ more)) ≡ Some id
  pub after : after_taking (untaken_all ids.supply (id ∷ more)) ≡ untaken_all ids.supply more

-- ---- all ids are put back

-- The ids under which slots were used, from this slot on.
abbrev pub used_ids : ℕ → ℕ → List ℕ → List (List ℕ)
used_ids shard slot [] = []
used_ids shard slot (generation ∷ generations) = id_at shard slot generation ∷ used_ids shard (slot + 1) generations

-- The ids of the free slots, in the order in which they were freed.
abbrev pub freed_ids : ℕ → Supply → List (List ℕ)
freed_ids shard s = map (λ slot. id_at shard slot (slice_index s.generations slot)) s.free

-- Slots are used under these ids, one after the other.
abbrev pub UsesInTurn : LiveIds → List (List ℕ) → LiveIds → Type 0
UsesInTurn old [] new = old ≡ new
UsesInTurn old (id ∷ more) new = IsNextUnused old id × UsesInTurn (with_used old id) more new

-- These live ids are freed, one after the other.
abbrev pub GivesInTurn : LiveIds → List (List ℕ) → LiveIds → Type 0
GivesInTurn old [] new = old ≡ new
GivesInTurn old (id ∷ more) new = (is_live old id ≡ true) × GivesInTurn (given_back old id) more new

-- All slots are used and the free ones are freed, and these are the ids; the id freed last may be another.
pub record IsResumed (ids : LiveIds) : Type 0 where
  pub used : LiveIds
  pub uses : UsesInTurn (beginning_after (no_ids ids.shard) ids.supply.first) (used_ids ids.shard 0 ids.supply.generations) used
  pub last : Option (List ℕ)
  pub gives : GivesInTurn used (freed_ids ids.shard ids.supply) (record ids { freed_last = last })
