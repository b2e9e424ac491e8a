-- What the slab and its keys say of the open transactions.
use Rattle.std.proofs.Common.{◌≡◌, ◌≢◌, ℕ, zero, suc, ◌+◌, ◌<◌, ◌≤◌, Bool, true, false, cond, ◌||◌, List, [], ◌∷◌, length, Option, Some, None, refl, sym, ap, ◌∙◌, arith, get_or}
use Rattle.std.specs.Option.{option_map, is_some, IsSomeAnd}
use Rattle.std.specs.List.{list_any, slice_index_or, AllZip}
use Rattle.std.specs.Ordering.{eq_by_cmp}
use Rattle.std.specs.FinMap as map
use Rattle.std.specs.FinSet as set
use Rattle.slab.specs.Slab.{Slab, get, slab_len, IsSlotClone}
use Rattle.hlr_types.specs.Orders.{octets_cmp}
use Rattle.hlr_types.specs.Ids.{IsIdOf}
use Rattle.hlr_types.proofs.OrderLemmas.{octets_total, octets_exact, same_octets, eq_octets}
use Rattle.machine.specs.State.{Transaction}
use Rattle.tidalloc.specs.LiveIds.{LiveIds, is_live, slot_of, slot_if_live}
use Rattle.tsl.specs.declared.transactions.Entry.{Entry}
use Rattle.tsl.specs.Transactions.{at, count, none_with, transaction_of}
use Rattle.tsl.specs.Table.{entry_at, with_entry, transactions_of, open_of, AreEntries}

-- what an entry stands for
abbrev pub transaction_in : Entry → Transaction
transaction_in e = transaction_of e.transaction

-- the transaction that the table has at an id
abbrev pub stored : List ℕ → Slab Entry → List ℕ → Option Transaction
stored keys slab id = option_map transaction_in (entry_at keys slab id)

abbrev pub id_in : Option Entry → Option (List ℕ)
id_in o = option_map (λ (e : Entry). e.id) o

module _ (keys : List ℕ) (slab : Slab Entry) (q : List ℕ) where
  find_here : (id : List ℕ) (o : Option Entry) (rest : List (List ℕ × Transaction)) (b : Bool) (x : Option Transaction)
      → map.find octets_cmp q rest ≡ cond b x None → (eq_by_cmp octets_cmp q id ≡ true → option_map transaction_in o ≡ x)
      → map.find octets_cmp q (with_entry id o rest) ≡ cond (eq_by_cmp octets_cmp q id || b) x None
  find_here id None rest b x more here = look (eq_by_cmp octets_cmp q id) refl
    where
      look : (e : Bool) → eq_by_cmp octets_cmp q id ≡ e → map.find octets_cmp q rest ≡ cond (e || b) x None
      look true e = elim b as (λ b. map.find octets_cmp q rest ≡ cond b x None
          → map.find octets_cmp q rest ≡ x) [ true ↦ λ m. m | false ↦ λ m. m ∙ here e ] more
      look false e = more
  find_here id (Some entry) rest b x more here = look (eq_by_cmp octets_cmp q id) refl
    where
      look : (e : Bool) → eq_by_cmp octets_cmp q id ≡ e → cond e (Some (transaction_in entry)) (map.find octets_cmp q rest) ≡ cond (e || b) x None
      look true e = here e
      look false e = more

  pub find-transactions_of : (ids : List (List ℕ)) → map.find octets_cmp q (transactions_of keys slab ids)
      ≡ cond (list_any (eq_by_cmp octets_cmp q) ids) (stored keys slab q) None
  find-transactions_of [] = refl
  find-transactions_of (id ∷ ids) =
      find_here id (entry_at keys slab id) (transactions_of keys slab ids) (list_any (eq_by_cmp octets_cmp q) ids) (stored keys slab q)
      (find-transactions_of ids)
      (λ e. ap (stored keys slab) (sym (same_octets q id e)))

-- what is open at an id
pub at-open_of : (ids : LiveIds) (keys : List ℕ) (slab : Slab Entry) (room : ℕ) (q : List ℕ)
    → at (open_of ids keys slab room) q ≡ cond (is_live ids q) (stored keys slab q) None
at-open_of ids keys slab room q =
    map.get-from_entries octets_total (transactions_of keys slab (set.items ids.live)) q
    ∙ find-transactions_of keys slab q (set.items ids.live)
    ∙ ap (λ b. cond b (stored keys slab q) None) (sym (set.contains-items ids.live q))

-- ---- how many
or-true : (a b : Bool) → b ≡ true → (a || b) ≡ true
or-true true b e = refl
or-true false b e = e

is_some-cond : (b : Bool) (o : Option Transaction) → is_some o ≡ true → is_some (cond b o None) ≡ b
is_some-cond true o e = e
is_some-cond false o e = refl

len-list : (keys : List ℕ) (slab : Slab Entry) (ids : List (List ℕ))
    → ((id : List ℕ) → list_any (eq_by_cmp octets_cmp id) ids ≡ true → is_some (entry_at keys slab id) ≡ true)
    → map.len (map.from_entries {R = octets_cmp} (transactions_of keys slab ids)) ≡ set.len (set.from_list {R = octets_cmp} ids)
len-list keys slab [] each = map.len-empty octets_cmp Transaction ∙ sym (set.len-empty octets_cmp)
len-list keys slab (id ∷ ids) each =
    let rest = len-list keys slab ids (λ q e. each q (or-true (eq_by_cmp octets_cmp q id) _ e)) in
    let here : is_some (entry_at keys slab id) ≡ true = each id (ap (λ b. b || list_any (eq_by_cmp octets_cmp id) ids) (eq_octets id id refl)) in
    look (entry_at keys slab id) refl here rest
  where
    look : (o : Option Entry) → entry_at keys slab id ≡ o → is_some o ≡ true
        → map.len (map.from_entries {R = octets_cmp} (transactions_of keys slab ids)) ≡ set.len (set.from_list {R = octets_cmp} ids)
        → map.len (map.from_entries {R = octets_cmp} (with_entry id o (transactions_of keys slab ids)))
        ≡ set.len (set.insert (set.from_list {R = octets_cmp} ids) id)
    look None e none rest = cc
    look (Some entry) e some rest =
        let m = map.from_entries {R = octets_cmp} (transactions_of keys slab ids) in
        let s = set.from_list {R = octets_cmp} ids in
        let has : is_some (map.get m id) ≡ set.contains s id =
        ap is_some (map.get-from_entries octets_total (transactions_of keys slab ids) id ∙ find-transactions_of keys slab id ids)
        ∙ is_some-cond _ (stored keys slab id) (ap (λ o. is_some (option_map transaction_in o)) e)
        ∙ sym (set.contains-from_list octets_total ids id) in
        map.len-insert octets_total m id (transaction_in entry)
        ∙ ap (λ b. cond b (map.len m) (map.len m + 1)) has
        ∙ ap (λ n. cond (set.contains s id) n (n + 1)) rest
        ∙ sym (set.len-insert octets_total s id)

-- an id that is live has its own entry
module _ (ids : LiveIds) (keys : List ℕ) (slab : Slab Entry) (room : ℕ) (a : AreEntries ids keys slab room) where
  has_entry : (id : List ℕ) → is_live ids id ≡ true → is_some (entry_at keys slab id) ≡ true
  has_entry id live = look (entry_at keys slab id) (a.own id live)
    where
      look : (o : Option Entry) → id_in o ≡ Some id → is_some o ≡ true
      look None e = cc
      look (Some x) e = refl

  -- as many transactions as live ids
  pub count-open_of : count (open_of ids keys slab room) ≡ set.len ids.live
  count-open_of =
      len-list keys slab (set.items ids.live) (λ q e. has_entry q (set.contains-items ids.live q ∙ e))
      ∙ ap set.len (set.same_set octets_total octets_exact _ _ (λ q. set.contains-from_list octets_total (set.items ids.live) q
      ∙ sym (set.contains-items ids.live q)))

  pub is_live_if_open : (id : List ℕ) → at (open_of ids keys slab room) id ≢ None → is_live ids id ≡ true
  is_live_if_open id some = look (is_live ids id) (at-open_of ids keys slab room id)
    where
      look : (b : Bool) → at (open_of ids keys slab room) id ≡ cond b (stored keys slab id) None → b ≡ true
      look true e = refl
      look false e = absurd (some e)

  pub is_open_if_live : (id : List ℕ) → is_live ids id ≡ true → is_some (at (open_of ids keys slab room) id) ≡ true
  is_open_if_live id live =
      ap is_some (at-open_of ids keys slab room id ∙ ap (λ b. cond b (stored keys slab id) None) live)
      ∙ look (entry_at keys slab id) (has_entry id live)
    where
      look : (o : Option Entry) → is_some o ≡ true → is_some (option_map transaction_in o) ≡ true
      look None e = e
      look (Some x) e = refl

  -- a transaction is open if the id is live
  pub is_some-at : (id : List ℕ) → is_some (at (open_of ids keys slab room) id) ≡ is_live ids id
  is_some-at id = look (is_live ids id) refl
    where
      look : (b : Bool) → is_live ids id ≡ b → is_some (at (open_of ids keys slab room) id) ≡ is_live ids id
      look true live = is_open_if_live id live ∙ sym live
      look false dead = ap is_some (at-open_of ids keys slab room id ∙ ap (λ b. cond b (stored keys slab id) None) dead) ∙ sym dead

  pub not_open_if_not_live : (id : List ℕ) → is_live ids id ≡ false → at (open_of ids keys slab room) id ≡ None
  not_open_if_not_live id dead = at-open_of ids keys slab room id ∙ ap (λ b. cond b (stored keys slab id) None) dead

  -- each open transaction has an id of the shard
  pub has_id_of_shard : (id : List ℕ) → at (open_of ids keys slab room) id ≢ None → IsIdOf ids.shard id
  has_id_of_shard id some = a.of_shard id (is_live_if_open id some)

-- ---- by slots
pub slot_when_live : (ids : LiveIds) (id : List ℕ) → is_live ids id ≡ true → slot_if_live ids id ≡ Some (slot_of id)
slot_when_live ids id live = ap (λ b. cond b (Some (slot_of id)) None) live

pub slot_when_not : (ids : LiveIds) (id : List ℕ) → is_live ids id ≡ false → slot_if_live ids id ≡ None
slot_when_not ids id dead = ap (λ b. cond b (Some (slot_of id)) None) dead

pub live_when_slot : (ids : LiveIds) (id : List ℕ) (slot : ℕ) → Some slot ≡ slot_if_live ids id → is_live ids id ≡ true
live_when_slot ids id slot there = look (is_live ids id) refl
  where
    look : (b : Bool) → is_live ids id ≡ b → is_live ids id ≡ true
    look true e = e
    look false e = let s = there ∙ slot_when_not ids id e in cc

pub not_live_when_no_slot : (ids : LiveIds) (id : List ℕ) → None ≡ slot_if_live ids id → is_live ids id ≡ false
not_live_when_no_slot ids id none = look (is_live ids id) refl
  where
    look : (b : Bool) → is_live ids id ≡ b → is_live ids id ≡ false
    look true e = let s = none ∙ slot_when_live ids id e in cc
    look false e = e

pub slot_is : (ids : LiveIds) (id : List ℕ) (slot : ℕ) → Some slot ≡ slot_if_live ids id → slot ≡ slot_of id
slot_is ids id slot there = let e = there ∙ slot_when_live ids id (live_when_slot ids id slot there) in cc

-- a number that was read at an index in range
pub index_is : (xs : List ℕ) (i n : ℕ) → i < length xs → n ≡ get_or xs i n → n ≡ get_or xs i 0
index_is [] i n h e = absurd (omega arith)
index_is (x ∷ xs) zero n h e = e
index_is (x ∷ xs) (suc i) n h e = index_is xs i n (omega arith) e

module _ (ids : LiveIds) (keys : List ℕ) (slab : Slab Entry) (room : ℕ) (a : AreEntries ids keys slab room) (id : List ℕ) (slot key : ℕ)
    (there : Some slot ≡ slot_if_live ids id) (below : slot < set.len ids.live + length ids.supply.free) (read : key ≡ get_or keys slot key) where
  -- the key of the id's slot
  pub key_is : key ≡ get_or keys (slot_of id) 0
  key_is = index_is keys slot key (omega (arith, a.used, below)) read ∙ ap (λ n. get_or keys n 0) (slot_is ids id slot there)

  -- an entry is there
  pub has_key : is_some (get slab key) ≡ true
  has_key = ap (λ k. is_some (get slab k)) key_is ∙ has_entry ids keys slab room a id (live_when_slot ids id slot there)

  -- what is open is what the entry there stands for
  pub at-entry : (e : Entry) → get slab key ≡ Some e → at (open_of ids keys slab room) id ≡ Some (transaction_in e)
  at-entry e stands =
      at-open_of ids keys slab room id
      ∙ ap (λ b. cond b (stored keys slab id) None) (live_when_slot ids id slot there)
      ∙ ap (λ k. option_map transaction_in (get slab k)) (sym key_is)
      ∙ ap (option_map transaction_in) stands

  -- and the entry has the id
  pub id-entry : (e : Entry) → get slab key ≡ Some e → e.id ≡ id
  id-entry e stands =
      let own = a.own id (live_when_slot ids id slot there) in
      let same : id_in (Some e) ≡ Some id = ap id_in (sym stands) ∙ ap (λ k. id_in (get slab k)) key_is ∙ own in
      cc

-- ---- nothing open
none_live : (ids : LiveIds) → ids.live ≡ set.empty → (id : List ℕ) → is_live ids id ≡ false
none_live ids none id = ap (λ (live : set.FinSet octets_cmp). set.contains live id) none ∙ set.contains-empty octets_cmp id

pub AreEntries-none : (ids : LiveIds) (keys : List ℕ) (slab : Slab Entry) → ids.live ≡ set.empty → length keys ≡ length ids.supply.free → slab.slots ≡ []
    → AreEntries ids keys slab 0
AreEntries-none ids keys slab none as_many empty =
    let dead : (id : List ℕ) → is_live ids id ≡ true → ⊥ = λ id live. let not_live = none_live ids none id in cc in
    let no_live : set.len ids.live ≡ 0 = ap set.len none ∙ set.len-empty octets_cmp in
    record {
      used = omega (arith, no_live, as_many);
      room_in_keys = omega (arith, no_live);
      of_shard = λ id live. absurd (dead id live);
      own = λ id live. absurd (dead id live);
      no_other = λ key e stands. let none : get slab key ≡ None = ap (λ s. slice_index_or s key None) empty in absurd
          (let x : Some e ≡ None = sym stands ∙ none in cc);
      room_in_slab = let n : slab_len slab ≡ 0 = ap (λ s. slab_len (record slab { slots = s })) empty in omega (arith, n);
      few = omega (arith, no_live);
    }

pub open_of-none : (ids : LiveIds) (keys : List ℕ) (slab : Slab Entry) → ids.live ≡ set.empty → open_of ids keys slab 0 ≡ none_with ids
open_of-none ids keys slab none = λ i. record (none_with ids) { open_ones = empty i }
  where
    empty : (open_of ids keys slab 0).open_ones ≡ map.empty
    empty = map.same_map octets_total octets_exact _ _ (λ q.
        at-open_of ids keys slab 0 q ∙ ap (λ b. cond b (stored keys slab q) None) (none_live ids none q)
        ∙ sym (map.get-empty octets_cmp q))

-- ---- a copy
some_same : {T : Type 0} (C : T → T → Type 0) → ((x y : T) → C x y → y ≡ x) → (v : T) (y : Option T) → IsSomeAnd y (C v) → y ≡ Some v
some_same C exact v None h = absurd h
some_same C exact v (Some w) h = ap Some (exact v w h)

slot_same : {T : Type 0} (C : T → T → Type 0) → ((x y : T) → C x y → y ≡ x) → (x y : Option T) → IsSlotClone C x y → y ≡ x
slot_same C exact None y h = h
slot_same C exact (Some v) y h = some_same C exact v y h

-- a clone of a slab whose values' clones are the same has the same slots
pub slots_same : {T : Type 0} (C : T → T → Type 0) → ((x y : T) → C x y → y ≡ x) → (xs ys : List (Option T)) → AllZip (IsSlotClone C) xs ys → ys ≡ xs
slots_same C exact [] [] h = refl
slots_same C exact [] (y ∷ ys) h = absurd h
slots_same C exact (x ∷ xs) [] h = absurd h
slots_same C exact (x ∷ xs) (y ∷ ys) h = λ i. slot_same C exact x y h.0 i ∷ slots_same C exact xs ys h.1 i

-- the same slots, the same transactions
pub open_of-slots : (ids : LiveIds) (keys : List ℕ) (slab slab' : Slab Entry) (room : ℕ) → slab'.slots ≡ slab.slots
    → open_of ids keys slab' room ≡ open_of ids keys slab room
open_of-slots ids keys slab slab' room e = λ i. open_of ids keys (record slab { slots = e i }) room

-- and as much room as is needed
pub AreEntries-slots : (ids : LiveIds) (keys : List ℕ) (slab slab' : Slab Entry) (room : ℕ) → slab'.slots ≡ slab.slots → slab_len slab' + room ≤ slab'.capacity
    → AreEntries ids keys slab room → AreEntries ids keys slab' room
AreEntries-slots ids keys slab slab' room e fits a = record {
  used = a.used;
  room_in_keys = a.room_in_keys;
  of_shard = a.of_shard;
  own = λ id live. ap (λ s. id_in (slice_index_or s (get_or keys (slot_of id) 0) None)) e ∙ a.own id live;
  no_other = λ key x stands. a.no_other key x (ap (λ s. slice_index_or s key None) (sym e) ∙ stands);
  room_in_slab = fits;
  few = a.few;
}

-- ---- more keys
-- the same entries at the keys, the same transactions
transactions_of-keys : (keys keys' : List ℕ) (slab : Slab Entry) → ((n : ℕ) → get_or keys' n 0 ≡ get_or keys n 0)
    → (ids : List (List ℕ)) → transactions_of keys' slab ids ≡ transactions_of keys slab ids
transactions_of-keys keys keys' slab same [] = refl
transactions_of-keys keys keys' slab same (id ∷ ids) =
    λ i. with_entry id (get slab (same (slot_of id) i)) (transactions_of-keys keys keys' slab same ids i)

pub open_of-keys : (ids : LiveIds) (keys keys' : List ℕ) (slab : Slab Entry) (room : ℕ) → ((n : ℕ) → get_or keys' n 0 ≡ get_or keys n 0)
    → open_of ids keys' slab room ≡ open_of ids keys slab room
open_of-keys ids keys keys' slab room same =
    λ i. record (open_of ids keys slab room) { open_ones = map.from_entries (transactions_of-keys keys keys' slab same (set.items ids.live) i) }
