-- What stays and what changes when memory is reserved and when a transaction begins, becomes Active or closes.
use Rattle.std.proofs.Common.{◌≡◌, ◌≢◌, ℕ, ◌+◌, ◌-◌, ◌<◌, ◌≤◌, Bool, true, false, cond, not, ◌&&◌, ◌||◌, List, length, Option, Some, None, refl, sym, ap, ◌∙◌, subst, arith, inl, inr, get_or, zero, suc, [], ◌∷◌, ◌++◌}
use Rattle.std.specs.Option.{option_map, is_some, IfSome}
use Rattle.std.specs.List.{slice_index_or}
use Rattle.std.specs.Ordering.{eq_by_cmp}
use Rattle.std.specs.FinMap as map
use Rattle.std.specs.FinSet as set
use Rattle.slab.specs.Slab.{Slab, get, slab_len, with_value, Updates}
use Rattle.std.proofs.Math.ListN.{set, length-set, length-append}
use Rattle.std.proofs.lemmas.List.{get_or-set_same, get_or-set_other, length-take-le}
use Rattle.std.proofs.lemmas.Bool.{cases_eq}
use Rattle.std.proofs.lemmas.List.Sums.{sum_by-set}
use Rattle.hlr_types.specs.Orders.{octets_cmp}
use Rattle.hlr_types.specs.Ids.{IsIdOf}
use Rattle.hlr_types.proofs.OrderLemmas.{octets_total, octets_exact, eq_octets, ne_octets, cases_octets}
use Rattle.tidalloc.specs.LiveIds.{LiveIds, is_live, slot_of, slot_if_live, given_back, HaveOwnSlots, Takes, MayBeTaken}
use Rattle.tsl.specs.declared.transactions.Entry.{Entry}
use Rattle.tsl.specs.Transactions.{Begins, MayBegin, at, closed, with_transaction}
use Rattle.tsl.specs.Table.{entry_at, open_of, IsOwn, AreEntries}
use Rattle.tsl.proofs.ViewLemmas.{transaction_in, id_in, stored, at-open_of, not_open_if_not_live, open_of-keys, open_of-slots, slot_when_live}

-- ---- memory is reserved
-- past the last key every key counts as 0, so one more 0 changes none
pub key-pushed : (keys : List ℕ) (n : ℕ) → get_or (keys ++ 0 ∷ []) n 0 ≡ get_or keys n 0
key-pushed [] zero = refl
key-pushed [] (suc n) = refl
key-pushed (key ∷ keys) zero = refl
key-pushed (key ∷ keys) (suc n) = key-pushed keys n

-- one more can begin, if there is memory for its entry and one key more than live ids
module _ (ids : LiveIds) (keys keys' : List ℕ) (slab slab' : Slab Entry) (room : ℕ) (same : (n : ℕ) → get_or keys' n 0 ≡ get_or keys n 0)
    (slots : slab'.slots ≡ slab.slots) where
  pub AreEntries-reserve : AreEntries ids keys slab room → length keys ≤ length keys' → set.len ids.live < length keys'
      → slab_len slab' + 1 ≤ slab'.capacity → set.len ids.live < 4096 → AreEntries ids keys' slab' 1
  AreEntries-reserve a longer more fits few = record {
    used = omega (arith, a.used, longer);
    room_in_keys = omega (arith, more);
    of_shard = a.of_shard;
    own = λ id live. ap (λ k. id_in (get slab' k)) (same (slot_of id)) ∙ ap (λ s. id_in (slice_index_or s (get_or keys (slot_of id) 0) None)) slots ∙ a.own id live;
    no_other = λ key e stands.
        let was = a.no_other key e (ap (λ s. slice_index_or s key None) (sym slots) ∙ stands) in
        record { live = was.live; found = same (slot_of e.id) ∙ was.found };
    room_in_slab = fits;
    few = omega (arith, few);
  }

  pub reserves : open_of ids keys' slab' 1 ≡ record (open_of ids keys slab room) { room = 1 }
  reserves = open_of-keys ids keys keys' slab' 1 same ∙ open_of-slots ids keys slab slab' 1 slots

-- ---- an entry comes, at an id that is live now
pub record Adds (ids ids' : LiveIds) (keys keys' : List ℕ) (slab slab' : Slab Entry) (key : ℕ) (entry : Entry) : Type 0 where
  pub live : (q : List ℕ) → is_live ids' q ≡ (eq_by_cmp octets_cmp q entry.id || is_live ids q)
  pub own_slots : HaveOwnSlots ids'
  pub key_here : get_or keys' (slot_of entry.id) 0 ≡ key
  pub key_there : (n : ℕ) → n ≢ slot_of entry.id → get_or keys' n 0 ≡ get_or keys n 0
  pub here : get slab' key ≡ Some entry
  pub there : (k : ℕ) → k ≢ key → get slab' k ≡ get slab k
  pub was_not_live : is_live ids entry.id ≡ false
  pub was_vacant : get slab key ≡ None

or-true : (a b : Bool) → b ≡ true → (a || b) ≡ true
or-true true b e = refl
or-true false b e = e

module _ (ids ids' : LiveIds) (keys keys' : List ℕ) (slab slab' : Slab Entry) (room room' key : ℕ) (entry : Entry)
    (adds : Adds ids ids' keys keys' slab slab' key entry) (a : AreEntries ids keys slab room) where
  entry_new : entry_at keys' slab' entry.id ≡ Some entry
  entry_new = ap (get slab') adds.key_here ∙ adds.here

  pub live_new : is_live ids' entry.id ≡ true
  live_new = adds.live entry.id ∙ ap (λ b. b || is_live ids entry.id) (eq_octets entry.id entry.id refl)

  live_kept : (q : List ℕ) → is_live ids q ≡ true → is_live ids' q ≡ true
  live_kept q live = adds.live q ∙ or-true (eq_by_cmp octets_cmp q entry.id) _ live

  live_before : (q : List ℕ) → q ≢ entry.id → is_live ids' q ≡ true → is_live ids q ≡ true
  live_before q other live = sym (ap (λ b. b || is_live ids q) (ne_octets q entry.id other)) ∙ sym (adds.live q) ∙ live

  slots_differ : (q : List ℕ) → is_live ids q ≡ true → q ≢ entry.id → slot_of q ≢ slot_of entry.id
  slots_differ q live other = λ e. other (adds.own_slots q entry.id (live_kept q live) live_new e)

  pub entry_kept : (q : List ℕ) → is_live ids q ≡ true → q ≢ entry.id → entry_at keys' slab' q ≡ entry_at keys slab q
  entry_kept q live other =
      let key_apart : get_or keys (slot_of q) 0 ≢ key = λ e.
      let none : id_in (entry_at keys slab q) ≡ None = ap (λ k. id_in (get slab k)) e ∙ ap id_in adds.was_vacant in
      let some = a.own q live in
      cc in
      ap (get slab') (adds.key_there (slot_of q) (slots_differ q live other)) ∙ adds.there (get_or keys (slot_of q) 0) key_apart

  pub own-add : (q : List ℕ) → is_live ids' q ≡ true → id_in (entry_at keys' slab' q) ≡ Some q
  own-add q live = elim (cases_octets q entry.id) [
    | inl e ↦ ap (λ p. id_in (entry_at keys' slab' p)) e ∙ ap id_in entry_new ∙ ap Some (sym e)
    | inr other ↦ ap id_in (entry_kept q (live_before q other live) other) ∙ a.own q (live_before q other live)
  ]

  pub no_other-add : (k : ℕ) (e : Entry) → get slab' k ≡ Some e → IsOwn ids' keys' k e
  no_other-add k e stands = elim (cases_eq k key) [
    | inl same ↦
        let it : e ≡ entry = let s : Some e ≡ Some entry = sym stands ∙ ap (get slab') same ∙ adds.here in cc in
        subst (λ (x : Entry). IsOwn ids' keys' k x) (sym it) (record { live = live_new; found = adds.key_here ∙ sym same })
    | inr other ↦
        let was = a.no_other k e (sym (adds.there k other) ∙ stands) in
        let apart : e.id ≢ entry.id = λ same. let dead : is_live ids e.id ≡ false = ap (is_live ids) same ∙ adds.was_not_live in let live = was.live in cc in
        record { live = live_kept e.id was.live; found = adds.key_there (slot_of e.id) (slots_differ e.id was.live apart) ∙ was.found }
  ]

  pub open-add : (open_of ids' keys' slab' room').open_ones ≡ map.insert (open_of ids keys slab room).open_ones entry.id (transaction_in entry)
  open-add = map.same_map octets_total octets_exact _ _ (λ q.
      at-open_of ids' keys' slab' room' q
      ∙ elim (cases_octets q entry.id) [
        | inl e ↦
            ap (λ p. cond (is_live ids' p) (stored keys' slab' p) None) e
            ∙ ap (λ b. cond b (stored keys' slab' entry.id) None) live_new
            ∙ ap (option_map transaction_in) entry_new
            ∙ sym (ap (λ b. cond b (Some (transaction_in entry)) (at (open_of ids keys slab room) q)) (eq_octets q entry.id e))
        | inr other ↦
            ap (λ b. cond b (stored keys' slab' q) None) (adds.live q ∙ ap (λ b. b || is_live ids q) (ne_octets q entry.id other))
            ∙ kept q other (is_live ids q) refl
            ∙ sym (at-open_of ids keys slab room q)
            ∙ sym (ap (λ b. cond b (Some (transaction_in entry)) (at (open_of ids keys slab room) q)) (ne_octets q entry.id other))
      ]
      ∙ sym (map.get-insert octets_total (open_of ids keys slab room).open_ones entry.id (transaction_in entry) q))
    where
      kept : (q : List ℕ) → q ≢ entry.id → (b : Bool) → is_live ids q ≡ b → cond b (stored keys' slab' q) None ≡ cond b (stored keys slab q) None
      kept q other true live = ap (option_map transaction_in) (entry_kept q live other)
      kept q other false live = refl

-- ---- a transaction begins

-- each slot that is used then has a key: it was used before, or there was room for it
module _ (ids new : LiveIds) (keys : List ℕ) (slab : Slab Entry) (room : ℕ) (id : List ℕ)
    (a : AreEntries ids keys slab room) (t : Takes ids id new) (some : 0 < room) where
  one_more : set.len new.live ≡ set.len ids.live + 1
  one_more =
      ap (λ (v : LiveIds). set.len v.live) t.after ∙ set.len-insert octets_total ids.live id
      ∙ ap (λ b. cond b (set.len ids.live) (set.len ids.live + 1)) t.may.not_live

  pub used_then : set.len new.live + length new.supply.free ≤ length keys
  used_then =
      let free : length new.supply.free ≡ length ids.supply.free - 1 = ap (λ (v : LiveIds). length v.supply.free) t.after
      ∙ length-take-le (length ids.supply.free - 1) ids.supply.free (omega arith) in
      omega (arith, a.used, a.room_in_keys, one_more, free, some)

module _ (ids new : LiveIds) (keys : List ℕ) (slab slab' : Slab Entry) (room slot key : ℕ) (entry : Entry)
    (a : AreEntries ids keys slab room) (t : Takes ids entry.id new) (own : HaveOwnSlots new)
    (there : Some slot ≡ slot_if_live new entry.id) (below : slot < set.len new.live + length new.supply.free)
    (vacant : get slab key ≡ None) (u : Updates slab slab' key (Some entry)) (len : slab_len slab' ≡ slab_len slab + 1)
    (capacity : slab'.capacity ≡ slab.capacity) (some : 0 < room) where
  live-take : (q : List ℕ) → is_live new q ≡ (eq_by_cmp octets_cmp q entry.id || is_live ids q)
  live-take q = ap (λ (v : LiveIds). is_live v q) t.after ∙ set.contains-insert octets_total ids.live entry.id q

  slot_here : slot ≡ slot_of entry.id
  slot_here =
      let live : is_live new entry.id ≡ true = live-take entry.id ∙ ap (λ b. b || is_live ids entry.id) (eq_octets entry.id entry.id refl) in
      let e = there ∙ slot_when_live new entry.id live in
      cc

  adds : Adds ids new keys (set keys slot key) slab slab' key entry
  adds = record {
    live = live-take;
    own_slots = own;
    key_here = ap (λ n. get_or (set keys slot key) n 0) (sym slot_here) ∙ get_or-set_same keys slot key 0 (omega (arith, used_then ids new keys slab room entry.id a t some, below));
    key_there = λ n other. get_or-set_other keys slot n key 0 (λ e. other (e ∙ slot_here));
    here = u.changed;
    there = u.others;
    was_not_live = t.may.not_live;
    was_vacant = vacant;
  }

  pub AreEntries-begin : AreEntries new (set keys slot key) slab' (room - 1)
  AreEntries-begin = record {
    used = omega (arith, used_then ids new keys slab room entry.id a t some, length-set keys slot key);
    room_in_keys = omega (arith, a.room_in_keys, one_more ids new keys slab room entry.id a t some, length-set keys slot key);
    of_shard = λ q live. subst (λ n. IsIdOf n q) (sym (ap (λ (v : LiveIds). v.shard) t.after)) (elim (cases_octets q entry.id) [
      | inl e ↦ subst (IsIdOf ids.shard) (sym e) t.may.of_shard
      | inr other ↦ a.of_shard q (live_before ids new keys (set keys slot key) slab slab' room (room - 1) key entry adds a q other live)
    ]);
    own = own-add ids new keys (set keys slot key) slab slab' room (room - 1) key entry adds a;
    no_other = no_other-add ids new keys (set keys slot key) slab slab' room (room - 1) key entry adds a;
    room_in_slab = omega (arith, a.room_in_slab, len, capacity);
    few = omega (arith, a.few, one_more ids new keys slab room entry.id a t some);
  }

  pub begins : Begins (open_of ids keys slab room) entry.id (transaction_in entry) (open_of new (set keys slot key) slab' (room - 1))
  begins = record {
    was_next = t.was_next;
    may = record {
      of_shard = t.may.of_shard;
      not_open = not_open_if_not_live ids keys slab room a entry.id t.may.not_live;
      not_freed_last = t.may.not_freed_last;
    };
    after = λ i. record {
      shard = (t.after i).shard;
      open_ones = open-add ids new keys (set keys slot key) slab slab' room (room - 1) key entry adds a i;
      freed_last = (t.after i).freed_last;
      supply = (t.after i).supply;
      room = room - 1;
    };
  }

-- ---- an entry goes, with its id
module _ (ids : LiveIds) (keys : List ℕ) (slab slab' : Slab Entry) (room key : ℕ) (id : List ℕ)
    (a : AreEntries ids keys slab room) (live : is_live ids id ≡ true) (at_slot : key ≡ get_or keys (slot_of id) 0) (u : Updates slab slab' key None)
    (len : slab_len slab' + 1 ≡ slab_len slab) (capacity : slab'.capacity ≡ slab.capacity) where
  live-give : (q : List ℕ) → is_live (given_back ids id) q ≡ (not (eq_by_cmp octets_cmp q id) && is_live ids q)
  live-give q = set.contains-remove octets_total ids.live id q

  was_live : (q : List ℕ) → q ≢ id → is_live (given_back ids id) q ≡ true → is_live ids q ≡ true
  was_live q other now = sym (ap (λ b. not b && is_live ids q) (ne_octets q id other)) ∙ sym (live-give q) ∙ now

  entry_stays : (q : List ℕ) → is_live ids q ≡ true → q ≢ id → entry_at keys slab' q ≡ entry_at keys slab q
  entry_stays q live_q other =
      let key_apart : get_or keys (slot_of q) 0 ≢ key = λ e.
      let one = a.own q live_q in
      let two = a.own id live in
      let same : Some q ≡ Some id = sym one ∙ ap (λ k. id_in (get slab k)) (e ∙ at_slot) ∙ two in
      other cc in
      u.others (get_or keys (slot_of q) 0) key_apart

  one_less : set.len (given_back ids id).live + 1 ≡ set.len ids.live
  one_less =
      let less : set.len (given_back ids id).live ≡ set.len ids.live - 1 = set.len-remove octets_total ids.live id
      ∙ ap (λ b. cond b (set.len ids.live - 1) (set.len ids.live)) live in
      let some : set.len ids.live ≢ 0 = λ none. let x : is_live ids id
      ≡ false = ap (λ s. set.contains s id) (set.empty_of_len ids.live none) ∙ set.contains-empty octets_cmp id in cc in
      omega (arith, less, some)

  pub AreEntries-close : AreEntries (given_back ids id) keys slab' (room + 1)
  AreEntries-close = record {
    used = omega (arith, a.used, one_less, length-append ids.supply.free (slot_of id ∷ []));
    room_in_keys = omega (arith, a.room_in_keys, one_less);
    of_shard = λ q now. elim (cases_octets q id) [
      | inl e ↦ subst (IsIdOf ids.shard) (sym e) (a.of_shard id live)
      | inr other ↦ a.of_shard q (was_live q other now)
    ];
    own = λ q now. elim (cases_octets q id) [
      | inl e ↦ let gone : is_live (given_back ids id) q ≡ false = live-give q ∙ ap (λ b. not b && is_live ids q) (eq_octets q id e) in cc
      | inr other ↦ ap id_in (entry_stays q (was_live q other now) other) ∙ a.own q (was_live q other now)
    ];
    no_other = λ k e stands. elim (cases_eq k key) [
      | inl same ↦ let none : Some e ≡ None = sym stands ∙ ap (get slab') same ∙ u.changed in cc
      | inr other ↦
          let was = a.no_other k e (sym (u.others k other) ∙ stands) in
          let apart : e.id ≢ id = λ same. other (sym was.found ∙ ap (λ i. get_or keys (slot_of i) 0) same ∙ sym at_slot) in
          record { live = live-give e.id ∙ ap (λ b. not b && is_live ids e.id) (ne_octets e.id id apart) ∙ was.live; found = was.found }
    ];
    room_in_slab = omega (arith, a.room_in_slab, len, capacity);
    few = omega (arith, a.few, one_less);
  }

  pub closes : open_of (given_back ids id) keys slab' (room + 1) ≡ closed (open_of ids keys slab room) id
  closes = λ i. record (closed (open_of ids keys slab room) id) { open_ones = open_ones i }
    where
      kept : (q : List ℕ) → q ≢ id → (b : Bool) → is_live ids q ≡ b → cond b (stored keys slab' q) None ≡ cond b (stored keys slab q) None
      kept q other true e = ap (option_map transaction_in) (entry_stays q e other)
      kept q other false e = refl

      open_ones : (open_of (given_back ids id) keys slab' (room + 1)).open_ones ≡ map.remove (open_of ids keys slab room).open_ones id
      open_ones = map.same_map octets_total octets_exact _ _ (λ q.
          at-open_of (given_back ids id) keys slab' (room + 1) q
          ∙ elim (cases_octets q id) [
            | inl e ↦
                ap (λ b. cond b (stored keys slab' q) None) (live-give q ∙ ap (λ b. not b && is_live ids q) (eq_octets q id e))
                ∙ sym (ap (λ b. cond b None (at (open_of ids keys slab room) q)) (eq_octets q id e))
            | inr other ↦
                ap (λ b. cond b (stored keys slab' q) None) (live-give q ∙ ap (λ b. not b && is_live ids q) (ne_octets q id other))
                ∙ kept q other (is_live ids q) refl
                ∙ sym (at-open_of ids keys slab room q)
                ∙ sym (ap (λ b. cond b None (at (open_of ids keys slab room) q)) (ne_octets q id other))
          ]
          ∙ sym (map.get-remove octets_total (open_of ids keys slab room).open_ones id q))

-- ---- another transaction stands at the key of an id
slots_within : {T : Type 0} (xs : List (Option T)) (k : ℕ) (v : T) → slice_index_or xs k None ≡ Some v → k < length xs
slots_within [] k v e = cc
slots_within (x ∷ xs) zero v e = omega arith
slots_within (x ∷ xs) (suc k) v e = let rest = slots_within xs k v e in omega arith

module _ (ids : LiveIds) (keys : List ℕ) (slab : Slab Entry) (room key : ℕ) (entry old : Entry)
    (a : AreEntries ids keys slab room) (live : is_live ids entry.id ≡ true) (at_slot : key ≡ get_or keys (slot_of entry.id) 0)
    (stood : get slab key ≡ Some old) where
  changed_here : get (with_value slab key entry) key ≡ Some entry
  changed_here = get_or-set_same slab.slots key (Some entry) None (slots_within slab.slots key old stood)

  same_there : (k : ℕ) → k ≢ key → get (with_value slab key entry) k ≡ get slab k
  same_there k other = get_or-set_other slab.slots key k (Some entry) None other

  same_len : slab_len (with_value slab key entry) ≡ slab_len slab
  same_len =
      let counts = sum_by-set (λ (o : Option Entry). cond (is_some o) 1 0) slab.slots key (Some entry) None (slots_within slab.slots key old stood) in
      let one : ◌≡◌ {A = ℕ} (cond (is_some (get slab key)) 1 0) 1 = ap (λ o. cond (is_some o) 1 0) stood in
      omega (arith, counts, one)

  entry_of_others : (q : List ℕ) → is_live ids q ≡ true → q ≢ entry.id → entry_at keys (with_value slab key entry) q ≡ entry_at keys slab q
  entry_of_others q live_q other =
      same_there (get_or keys (slot_of q) 0) (λ e.
      let one = a.own q live_q in
      let two = a.own entry.id live in
      let same : Some q ≡ Some entry.id = sym one ∙ ap (λ k. id_in (get slab k)) (e ∙ at_slot) ∙ two in
      other cc)

  entry_of_it : entry_at keys (with_value slab key entry) entry.id ≡ Some entry
  entry_of_it = ap (get (with_value slab key entry)) (sym at_slot) ∙ changed_here

  pub AreEntries-set : AreEntries ids keys (with_value slab key entry) room
  AreEntries-set = record {
    used = a.used;
    room_in_keys = a.room_in_keys;
    of_shard = a.of_shard;
    own = λ q live_q. elim (cases_octets q entry.id) [
      | inl e ↦ ap (λ p. id_in (entry_at keys (with_value slab key entry) p)) e ∙ ap id_in entry_of_it ∙ ap Some (sym e)
      | inr other ↦ ap id_in (entry_of_others q live_q other) ∙ a.own q live_q
    ];
    no_other = λ k e stands. elim (cases_eq k key) [
      | inl same ↦
          let it : e ≡ entry = let s : Some e ≡ Some entry = sym stands ∙ ap (get (with_value slab key entry)) same ∙ changed_here in cc in
          subst (λ (x : Entry). IsOwn ids keys k x) (sym it) (record { live = live; found = sym at_slot ∙ sym same })
      | inr other ↦ a.no_other k e (sym (same_there k other) ∙ stands)
    ];
    room_in_slab = omega (arith, a.room_in_slab, same_len);
    few = a.few;
  }

  pub sets : open_of ids keys (with_value slab key entry) room ≡ with_transaction (open_of ids keys slab room) entry.id (transaction_in entry)
  sets = λ i. record (open_of ids keys slab room) { open_ones = open_ones i }
    where
      kept : (q : List ℕ) → q ≢ entry.id → (b : Bool) → is_live ids q ≡ b
          → cond b (stored keys (with_value slab key entry) q) None ≡ cond b (stored keys slab q) None
      kept q other true e = ap (option_map transaction_in) (entry_of_others q e other)
      kept q other false e = refl

      open_ones : (open_of ids keys (with_value slab key entry) room).open_ones
          ≡ map.insert (open_of ids keys slab room).open_ones entry.id (transaction_in entry)
      open_ones = map.same_map octets_total octets_exact _ _ (λ q.
          at-open_of ids keys (with_value slab key entry) room q
          ∙ elim (cases_octets q entry.id) [
            | inl e ↦
                ap (λ p. cond (is_live ids p) (stored keys (with_value slab key entry) p) None) e
                ∙ ap (λ b. cond b (stored keys (with_value slab key entry) entry.id) None) live
                ∙ ap (option_map transaction_in) entry_of_it
                ∙ sym (ap (λ b. cond b (Some (transaction_in entry)) (at (open_of ids keys slab room) q)) (eq_octets q entry.id e))
            | inr other ↦
                kept q other (is_live ids q) refl ∙ sym (at-open_of ids keys slab room q)
                ∙ sym (ap (λ b. cond b (Some (transaction_in entry)) (at (open_of ids keys slab room) q)) (ne_octets q entry.id other))
          ]
          ∙ sym (map.get-insert octets_total (open_of ids keys slab room).open_ones entry.id (transaction_in entry) q))

-- an id that was taken is live
pub live_taken : (ids new : LiveIds) (id : List ℕ) → Takes ids id new → is_live new id ≡ true
live_taken ids new id t =
    ap (λ (v : LiveIds). is_live v id) t.after ∙ set.contains-insert octets_total ids.live id id ∙ ap (λ b. b || is_live ids id) (eq_octets id id refl)

-- ---- what may be next
module _ (ids : LiveIds) (keys : List ℕ) (slab : Slab Entry) (room : ℕ) (a : AreEntries ids keys slab room) where
  may_begin : (id : List ℕ) → MayBeTaken ids id → MayBegin (open_of ids keys slab room) id
  may_begin id may = record {
    of_shard = may.of_shard;
    not_open = not_open_if_not_live ids keys slab room a id may.not_live;
    not_freed_last = may.not_freed_last;
  }

  pub may_begin_some : (o : Option (List ℕ)) → IfSome o (MayBeTaken ids) → IfSome o (MayBegin (open_of ids keys slab room))
  may_begin_some None may = may
  may_begin_some (Some id) may = may_begin id may

  pub may_begin_after : (id next : List ℕ) → MayBeTaken (given_back ids id) next → MayBegin (closed (open_of ids keys slab room) id) next
  may_begin_after id next may =
      let open_ones = map.get-remove octets_total (open_of ids keys slab room).open_ones id next in
      record {
        of_shard = may.of_shard;
        not_open = elim (cases_octets next id) [
          | inl e ↦ open_ones ∙ ap (λ b. cond b None (at (open_of ids keys slab room) next)) (eq_octets next id e)
          | inr other ↦
              let dead : is_live ids next ≡ false =
              sym (ap (λ b. not b && is_live ids next) (ne_octets next id other)) ∙ sym (set.contains-remove octets_total ids.live id next) ∙ may.not_live in
              open_ones ∙ ap (λ b. cond b None (at (open_of ids keys slab room) next)) (ne_octets next id other)
              ∙ not_open_if_not_live ids keys slab room a next dead
        ];
        not_freed_last = may.not_freed_last;
      }
