-- The live ids of a table of slots, after a slot is taken or freed.
use Rattle.std.proofs.Common.{◌≡◌, ℕ, zero, suc, ◌+◌, ◌<◌, ◌≤◌, Bool, true, false, cond, not, ◌&&◌, ◌||◌, List, [], ◌∷◌, ◌++◌, length, Option, Some, None, refl, sym, ap, ◌∙◌, arith, inl, inr}
use Rattle.std.proofs.Math.ListN.{set, length-set, length-append}
use Rattle.std.proofs.lemmas.Bool.{cases_eq}
use Rattle.std.specs.List.{slice_get, list_any}
use Rattle.std.specs.Ordering.{eq_by_cmp}
use Rattle.std.specs.FinSet as set
use Rattle.hlr_types.specs.Orders.{octets_cmp}
use Rattle.hlr_types.proofs.OrderLemmas.{octets_total, octets_exact, ne_octets}
use Rattle.tidalloc.proofs.Places.{slice_get-set_same, slice_get-set_other, slice_get-push_last, slice_get-push_other}
use Rattle.tidalloc.proofs.IdLemmas.{slot_of-id_at}
use Rattle.tidalloc.specs.declared.slot.Slot.{Slot}
use Rattle.tidalloc.specs.LiveIds.{id_at, slot_of}
use Rattle.tidalloc.specs.Slots.{ids_from, live_of, is_at, is_free}

-- an id of another slot
pub apart_from : (q : List ℕ) (shard n g : ℕ) → n < 4096 → (slot_of q ≡ n → ⊥) → eq_by_cmp octets_cmp q (id_at shard n g) ≡ false
apart_from q shard n g small other = ne_octets q (id_at shard n g) (λ e. other (ap slot_of e ∙ slot_of-id_at shard n g small))

any-cond : {X : Type 0} (p : X → Bool) (b : Bool) (x : X) (xs : List X) → list_any p (cond b (x ∷ xs) xs) ≡ ((b && p x) || list_any p xs)
any-cond p true x xs = refl
any-cond p false x xs = refl

none_or : (b c : Bool) → c ≡ false → ((b && c) || false) ≡ false
none_or true c e = ap (λ c. c || false) e
none_or false c e = refl

module _ (shard : ℕ) (q : List ℕ) where
  -- no id of a later slot is q
  pub none_below : (n : ℕ) (slots : List Slot) → n + length slots ≤ 4096 → slot_of q < n → list_any (eq_by_cmp octets_cmp q) (ids_from shard n slots) ≡ false
  none_below n [] few below = refl
  none_below n (s ∷ slots) few below =
      let rest = none_below (n + 1) slots (omega arith) (omega arith) in
      let other = apart_from q shard n s.generation (omega arith) (λ same. omega arith) in
      any-cond (eq_by_cmp octets_cmp q) s.is_live (id_at shard n s.generation) (ids_from shard (n + 1) slots)
      ∙ ap (λ b. (s.is_live && eq_by_cmp octets_cmp q (id_at shard n s.generation)) || b) rest
      ∙ none_or s.is_live _ other

  or_false : (b : Bool) → (b || false) ≡ b
  or_false true = refl
  or_false false = refl

  skipped : (b c : Bool) (d : Bool) → c ≡ false → ((b && c) || d) ≡ d
  skipped true c d e = ap (λ c. c || d) e
  skipped false c d e = refl

  found : (n : ℕ) (slots : List Slot) (d : ℕ) → n + length slots ≤ 4096 → slot_of q ≡ n + d
      → list_any (eq_by_cmp octets_cmp q) (ids_from shard n slots) ≡ is_at shard q (slice_get slots d)
  found n [] d few e = refl
  found n (s ∷ slots) zero few e =
      let rest = none_below (n + 1) slots (omega arith) (omega arith) in
      let same : slot_of q ≡ n = omega arith in
      any-cond (eq_by_cmp octets_cmp q) s.is_live (id_at shard n s.generation) (ids_from shard (n + 1) slots)
      ∙ ap (λ b. (s.is_live && eq_by_cmp octets_cmp q (id_at shard n s.generation)) || b) rest
      ∙ or_false _
      ∙ ap (λ m. s.is_live && eq_by_cmp octets_cmp q (id_at shard m s.generation)) (sym same)
  found n (s ∷ slots) (suc d) few e =
      let rest = found (n + 1) slots d (omega arith) (omega arith) in
      let other = apart_from q shard n s.generation (omega arith) (λ same. omega arith) in
      any-cond (eq_by_cmp octets_cmp q) s.is_live (id_at shard n s.generation) (ids_from shard (n + 1) slots)
      ∙ skipped s.is_live _ _ other
      ∙ rest

  pub contains-live_of : (slots : List Slot) → length slots ≤ 4096 → set.contains (live_of shard slots) q ≡ is_at shard q (slice_get slots (slot_of q))
  contains-live_of slots few =
      set.contains-from_list octets_total (ids_from shard 0 slots) q ∙ found 0 slots (slot_of q) (omega arith) (omega arith)

-- the new slots have this one at a number, and are else the old
pub record Puts (old new : List Slot) (number : ℕ) (s : Slot) : Type 0 where
  pub few : length old ≤ 4096
  pub still_few : length new ≤ 4096
  pub small : number < 4096
  pub here : slice_get new number ≡ Some s
  pub there : (j : ℕ) → (j ≡ number → ⊥) → slice_get new j ≡ slice_get old j

pub live_of-take : (shard : ℕ) (old new : List Slot) (number g : ℕ) → Puts old new number (record { generation = g; is_live = true })
    → ((q : List ℕ) → is_at shard q (slice_get old number) ≡ false)
    → live_of shard new ≡ set.insert (live_of shard old) (id_at shard number g)
live_of-take shard old new number g puts was_free =
    set.same_set octets_total octets_exact _ _ (λ q.
    contains-live_of shard q new puts.still_few
    ∙ elim (cases_eq (slot_of q) number) [
      | inl e ↦
          ap (λ n. is_at shard q (slice_get new n)) e ∙ ap (is_at shard q) puts.here
          ∙ ap (λ n. eq_by_cmp octets_cmp q (id_at shard n g)) e
          ∙ sym (or_nothing _ _ (contains-live_of shard q old puts.few ∙ ap (λ n. is_at shard q (slice_get old n)) e ∙ was_free q))
      | inr other ↦
          ap (is_at shard q) (puts.there (slot_of q) other)
          ∙ sym (contains-live_of shard q old puts.few)
          ∙ sym (ap (λ b. b || set.contains (live_of shard old) q) (apart_from q shard number g puts.small other))
    ]
    ∙ sym (set.contains-insert octets_total (live_of shard old) (id_at shard number g) q))
  where
    or_nothing : (a b : Bool) → b ≡ false → (a || b) ≡ a
    or_nothing true b e = refl
    or_nothing false b e = e

pub live_of-give_back : (shard : ℕ) (old new : List Slot) (number g h : ℕ) → Puts old new number (record { generation = h; is_live = false })
    → slice_get old number ≡ Some (record { generation = g; is_live = true })
    → live_of shard new ≡ set.remove (live_of shard old) (id_at shard number g)
live_of-give_back shard old new number g h puts was =
    set.same_set octets_total octets_exact _ _ (λ q.
    contains-live_of shard q new puts.still_few
    ∙ elim (cases_eq (slot_of q) number) [
      | inl e ↦
          ap (λ n. is_at shard q (slice_get new n)) e ∙ ap (is_at shard q) puts.here
          ∙ sym (not_and (eq_by_cmp octets_cmp q (id_at shard number g)))
          ∙ ap (λ b. not (eq_by_cmp octets_cmp q (id_at shard number g)) && b) (sym (
          contains-live_of shard q old puts.few ∙ ap (λ n. is_at shard q (slice_get old n)) e ∙ ap (is_at shard q) was
          ∙ ap (λ n. eq_by_cmp octets_cmp q (id_at shard n g)) e))
      | inr other ↦
          ap (is_at shard q) (puts.there (slot_of q) other)
          ∙ sym (contains-live_of shard q old puts.few)
          ∙ sym (ap (λ b. not b && set.contains (live_of shard old) q) (apart_from q shard number g puts.small other))
    ]
    ∙ sym (set.contains-remove octets_total (live_of shard old) (id_at shard number g) q))
  where
    not_and : (b : Bool) → (not b && b) ≡ false
    not_and true = refl
    not_and false = refl

-- a slot that is free has no live id
pub none_at_free : (shard : ℕ) (q : List ℕ) (o : Option Slot) → is_free o ≡ true → is_at shard q o ≡ false
none_at_free shard q None e = refl
none_at_free shard q (Some s) e = elim s.is_live as (λ b. cond b false true ≡ true
    → (b && eq_by_cmp octets_cmp q (id_at shard (slot_of q) s.generation)) ≡ false) [ true ↦ λ e. cc | false ↦ λ e. refl ] e

pub within_free : (slots : List Slot) (k : ℕ) → is_free (slice_get slots k) ≡ true → k < length slots
within_free [] k e = cc
within_free (s ∷ slots) zero e = omega arith
within_free (s ∷ slots) (suc k) e = let rest = within_free slots k e in omega arith

pub within_at : (shard : ℕ) (id : List ℕ) (slots : List Slot) (k : ℕ) → is_at shard id (slice_get slots k) ≡ true → k < length slots
within_at shard id [] k e = cc
within_at shard id (s ∷ slots) zero e = omega arith
within_at shard id (s ∷ slots) (suc k) e = let rest = within_at shard id slots k e in omega arith

pub puts-set : (slots : List Slot) (number : ℕ) (s : Slot) → length slots ≤ 4096 → number < length slots → Puts slots (set slots number s) number s
puts-set slots number s few within = record {
  few = few;
  still_few = omega (arith, length-set slots number s);
  small = omega arith;
  here = slice_get-set_same slots number s within;
  there = λ j apart. slice_get-set_other slots number j s apart;
}

pub puts-push : (slots : List Slot) (s : Slot) → length slots < 4096 → Puts slots (slots ++ s ∷ []) (length slots) s
puts-push slots s few = record {
  few = omega arith;
  still_few = omega (arith, length-append slots (s ∷ []));
  small = few;
  here = slice_get-push_last slots s;
  there = λ j apart. slice_get-push_other slots s j apart;
}
