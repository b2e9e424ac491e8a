-- The local transaction ids of a shard (Q.773): which are live, and which is next. An id is the number of the shard, then in
-- three octets a generation times 4,096 plus a slot (profile). A slot's generation rises by one at each use.
use Rattle.std.specs.Prelude.{◌≡◌, ◌≢◌, ℕ, ◌+◌, ◌-◌, ◌*◌, ◌/◌, ◌%◌, ◌==◌, nat_lt, List, [], ◌∷◌, ◌++◌, Bool, true, false, Option, Some, None, length, take, slice_index, slice_index_or, slice_set, refl, if◌then◌else◌}
use Rattle.std.specs.Coded.{Coded, code_by, coded×, coded_ℕ, coded_list, coded_option}
use Rattle.std.specs.FinSet as set
use Rattle.hlr_types.specs.Orders.{octets_cmp}
use Rattle.hlr_types.specs.Ids.{id_of, number_of, IsIdOf}

-- ---- ids, slots and generations

-- The id of a slot at a generation.
abbrev pub id_at : ℕ → ℕ → ℕ → List ℕ
id_at shard slot generation = id_of shard (generation * 4096 + slot)

-- The slot of an id: its last twelve bits.
abbrev pub slot_of : List ℕ → ℕ
slot_of id = number_of id % 4096

-- The generation of an id: the twelve bits before.
abbrev pub generation_of : List ℕ → ℕ
generation_of id = number_of id / 4096

-- After 4,095 a generation goes back to 1, so an id's last three octets are never all zero.
abbrev pub next_generation : ℕ → ℕ
next_generation generation = if generation == 4095 then 1 else generation + 1

-- The id that this one's slot has at its next use.
abbrev pub next_use : List ℕ → List ℕ
next_use id = id_at (slice_index id 0) (slot_of id) (next_generation (generation_of id))

-- ---- which id is next

-- What decides which id is next: the generation that a slot has before its first use, the generation of each slot that was used, by the slot's
-- number, and the slots that are free again, the one that was freed last at the end.
pub record Supply : Type 0 where
  pub first : ℕ
  pub generations : List ℕ
  pub free : List ℕ

abbrev pub supply_code : Coded Supply
supply_code =
    code_by (ℕ × (List ℕ × List ℕ)) (coded× coded_ℕ (coded× (coded_list coded_ℕ) (coded_list coded_ℕ)))
    (λ s. (s.first, (s.generations, s.free))) (λ p. record { first = p.0; generations = p.1.0; free = p.1.1 }) (λ _. refl)

-- No slot was used.
abbrev pub unused : ℕ → Supply
unused first = record { first = first; generations = []; free = [] }

-- The slot used next: the one freed last, else one that was never used.
abbrev pub next_slot : Supply → ℕ
next_slot s = slice_index_or s.free (length s.free - 1) (length s.generations)

-- The generation of a slot at its next use.
abbrev pub next_at : Supply → ℕ → ℕ
next_at s slot = next_generation (slice_index_or s.generations slot s.first)

-- The next id of a shard, if there is room for one.
abbrev pub next_id : ℕ → Supply → Option (List ℕ)
next_id shard s = if nat_lt (next_slot s) 4096 then Some (id_at shard (next_slot s) (next_at s (next_slot s))) else None

-- The slot has this generation; it may be the first use of it.
abbrev pub with_generation : List ℕ → (slot generation : ℕ) → List ℕ
with_generation generations slot generation =
    if nat_lt slot (length generations) then slice_set generations slot generation else generations ++ generation ∷ []

-- After the next id is taken its slot is not free, and the slot's generation has gone on by one.
abbrev pub after_taking : Supply → Supply
after_taking s = record s {
  generations = with_generation s.generations (next_slot s) (next_at s (next_slot s));
  free = take (length s.free - 1) s.free;
}

-- After an id is freed its slot is used next.
abbrev pub after_freeing : Supply → List ℕ → Supply
after_freeing s id = record s { free = s.free ++ slot_of id ∷ [] }

-- ---- what is live

-- The ids of a shard: the live ones, the one freed last, and what decides which is next.
pub record LiveIds : Type 0 where
  pub shard : ℕ
  pub live : set.FinSet octets_cmp
  pub freed_last : Option (List ℕ)
  pub supply : Supply

abbrev pub live_ids_code : Coded LiveIds
live_ids_code =
    code_by
    (ℕ × (set.FinSet octets_cmp × (Option (List ℕ) × Supply)))
    (coded× coded_ℕ (coded× (set.code (coded_list coded_ℕ)) (coded× (coded_option (coded_list coded_ℕ)) supply_code)))
    (λ i. (i.shard, (i.live, (i.freed_last, i.supply))))
    (λ p. record { shard = p.0; live = p.1.0; freed_last = p.1.1.0; supply = p.1.1.1 })
    (λ _. refl)

abbrev pub is_live : LiveIds → List ℕ → Bool
is_live ids id = set.contains ids.live id

-- The id that is taken next, if there is room for one.
abbrev pub next_of : LiveIds → Option (List ℕ)
next_of ids = next_id ids.shard ids.supply

-- No id of the shard is live, and none was ever freed.
abbrev pub no_ids : ℕ → LiveIds
no_ids shard = record { shard = shard; live = set.empty; freed_last = None; supply = unused 0 }

-- An id of the shard that is neither live nor the one freed last.
pub record MayBeTaken (ids : LiveIds) (id : List ℕ) : Type 0 where
  pub of_shard : IsIdOf ids.shard id
  pub not_live : is_live ids id ≡ false
  pub not_freed_last : ids.freed_last ≢ Some id

-- The next id, which may be taken, is now live too.
pub record Takes (old : LiveIds) (id : List ℕ) (new : LiveIds) : Type 0 where
  pub was_next : next_of old ≡ Some id
  pub may : MayBeTaken old id
  pub after : new ≡ record old { live = set.insert old.live id; supply = after_taking old.supply }

-- The id is no longer live. Its slot is used next.
abbrev pub given_back : LiveIds → List ℕ → LiveIds
given_back ids id = record ids {
  live = set.remove ids.live id;
  freed_last = Some id;
  supply = after_freeing ids.supply id;
}

-- The ids of slots that were never used begin after this generation.
abbrev pub beginning_after : LiveIds → ℕ → LiveIds
beginning_after ids generation = record ids { supply = record ids.supply { first = generation } }

-- The slot of an id that is live.
abbrev pub slot_if_live : LiveIds → List ℕ → Option ℕ
slot_if_live ids id = if is_live ids id then Some (slot_of id) else None

-- No two live ids share a slot.
abbrev pub HaveOwnSlots : LiveIds → Type 0
HaveOwnSlots ids = (p q : List ℕ) → is_live ids p ≡ true → is_live ids q ≡ true → slot_of p ≡ slot_of q → p ≡ q
