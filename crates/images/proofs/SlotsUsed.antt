-- Of the ids of a shard: at most 4,096 slots were used, and each free one was.
use Rattle.std.proofs.Common.{◌≡◌, ℕ, zero, suc, ◌+◌, ◌<◌, ◌≤◌, Bool, true, false, ◌||◌, List, [], ◌∷◌, ◌++◌, length, get_or, None, refl, sym, ap, ◌∙◌, subst, arith}
use Rattle.std.proofs.lemmas.Bool.{and_parts, true≢false}
use Rattle.std.proofs.lemmas.List.{length_push}
use Rattle.std.proofs.lemmas.Option.{none-some, slice_get-get_or}
use Rattle.std.specs.Prelude.{option_map, slice_get}
use Rattle.std.specs.Ordering.{eq_by_cmp}
use Rattle.std.specs.FinSet as set
use Rattle.hlr_types.specs.Orders.{octets_cmp}
use Rattle.hlr_types.proofs.OrderLemmas.{octets_total, same_octets}
use Rattle.tidalloc.specs.LiveIds.{LiveIds, Supply, id_at, slot_of, generation_of, is_live, given_back, beginning_after, no_ids}
use Rattle.tidalloc.specs.Resumed.{GivesInTurn, IsNextUnused, IsResumed, UsesInTurn, freed_ids, used_ids, with_used}

-- each live id is that of a slot below this number
abbrev AreBelow : ℕ → LiveIds → Type 0
AreBelow n ids = (id : List ℕ) → is_live ids id ≡ true → slot_of id < n

used_count : (shard slot : ℕ) (generations : List ℕ) → length (used_ids shard slot generations) ≡ length generations
used_count shard slot [] = refl
used_count shard slot (g ∷ gs) = ap suc (used_count shard (slot + 1) gs)

-- ---- slots are used

one_used : (old : LiveIds) (id : List ℕ) → IsNextUnused old id → AreBelow (length old.supply.generations) old
    → AreBelow (length (with_used old id).supply.generations) (with_used old id)
one_used old id is below q live =
    let count = length_push old.supply.generations (generation_of id) in
    let slot = is.slot in
    by (eq_by_cmp octets_cmp q id) refl count slot (sym (set.contains-insert octets_total old.live id q) ∙ live)
  where
    by : (b : Bool) → eq_by_cmp octets_cmp q id ≡ b → length (with_used old id).supply.generations ≡ length old.supply.generations + 1
        → slot_of id ≡ length old.supply.generations → (b || set.contains old.live q) ≡ true → slot_of q < length (with_used old id).supply.generations
    by true e count slot there = let same : slot_of q ≡ slot_of id = ap slot_of (same_octets q id e) in omega (arith, count, slot, same)
    by false e count slot there = let lt = below q there in omega (arith, count, lt)

-- what these uses leave
record AreUsed (old new : LiveIds) (count : ℕ) : Type 0 where
  below : AreBelow (length new.supply.generations) new
  counted : length new.supply.generations ≡ length old.supply.generations + count
  few : length new.supply.generations ≤ 4096
  free : new.supply.free ≡ old.supply.free

all_used : (old : LiveIds) (ids : List (List ℕ)) (new : LiveIds) → AreBelow (length old.supply.generations) old
    → length old.supply.generations ≤ 4096 → UsesInTurn old ids new → AreUsed old new (length ids)
all_used old [] new below few uses = subst (λ (x : LiveIds). AreUsed old x 0) uses
    (record { below = below; counted = omega arith; few = few; free = refl })
all_used old (id ∷ more) new below few uses =
    let count = length_push old.supply.generations (generation_of id) in
    let small = uses.0.few in
    let rest = all_used (with_used old id) more new (one_used old id uses.0 below) (omega (arith, count, small)) uses.1 in
    let counted = rest.counted in
    record { below = rest.below; counted = omega (arith, count, counted); few = rest.few; free = rest.free }

-- ---- free ones are freed

abbrev NumbersBelow : ℕ → List ℕ → Type 0
NumbersBelow n numbers = (i d : ℕ) → i < length numbers → get_or numbers i d < n

below_push : (n : ℕ) (numbers : List ℕ) (m : ℕ) → NumbersBelow n numbers → m < n → NumbersBelow n (numbers ++ m ∷ [])
below_push n [] m below lt zero d within = lt
below_push n [] m below lt (suc i) d within = absurd (omega (arith, within))
below_push n (x ∷ numbers) m below lt zero d within = below 0 d (omega arith)
below_push n (x ∷ numbers) m below lt (suc i) d within =
    below_push n numbers m (λ j e h. below (suc j) e (omega (arith, h))) lt i d (omega (arith, within))

still_below : (n : ℕ) (old : LiveIds) (id : List ℕ) → AreBelow n old → AreBelow n (given_back old id)
still_below n old id below q live = below q (and_parts _ _ (sym (set.contains-remove octets_total old.live id q) ∙ live)).1

all_freed : (n : ℕ) (old : LiveIds) (ids : List (List ℕ)) (new : LiveIds) → AreBelow n old → NumbersBelow n old.supply.free
    → GivesInTurn old ids new → NumbersBelow n new.supply.free
all_freed n old [] new below free gives = subst (λ (x : LiveIds). NumbersBelow n x.supply.free) gives free
all_freed n old (id ∷ more) new below free gives =
    all_freed n (given_back old id) more new (still_below n old id below) (below_push n old.supply.free (slot_of id) free (below id gives.0)) gives.1

-- ---- what is known of the ids of a shard

pub record HaveSlots (supply : Supply) : Type 0 where
  pub few : length supply.generations ≤ 4096
  pub free : NumbersBelow (length supply.generations) supply.free

pub have_slots : (ids : LiveIds) → IsResumed ids → HaveSlots ids.supply
have_slots ids is =
    let begun = beginning_after (no_ids ids.shard) ids.supply.first in
    let none : AreBelow 0 begun = λ id live. absurd (true≢false (sym live ∙ set.contains-empty octets_cmp id)) in
    let used = all_used begun (used_ids ids.shard 0 ids.supply.generations) is.used none (omega arith) is.uses in
    let counted = used.counted in
    let all = used_count ids.shard 0 ids.supply.generations in
    let same : length is.used.supply.generations ≡ length ids.supply.generations = omega (arith, counted, all) in
    let few = used.few in
    let no_free : NumbersBelow (length ids.supply.generations) is.used.supply.free =
    subst (NumbersBelow (length ids.supply.generations)) (sym used.free) (λ i d within. absurd (omega (arith, within))) in
    record {
      few = omega (arith, same, few);
      free = all_freed (length ids.supply.generations) is.used (freed_ids ids.shard ids.supply) _
          (subst (λ n. AreBelow n is.used) same used.below) no_free is.gives;
    }

-- a free slot has an id
pub never_unused : (shard : ℕ) (supply : Supply) → HaveSlots supply → (i slot : ℕ) (items : List ℕ) → items ≡ supply.free → i < length items
    → slot ≡ get_or items i 0 → option_map (id_at shard slot) (slice_get supply.generations slot) ≡ None → ⊥
never_unused shard supply have i slot items same lt at none =
    let within : i < length supply.free = subst (λ (ns : List ℕ). i < length ns) same lt in
    let here : slot ≡ get_or supply.free i 0 = at ∙ ap (λ (ns : List ℕ). get_or ns i 0) same in
    let used : slot < length supply.generations = subst (λ n. n < length supply.generations) (sym here) (have.free i 0 within) in
    none-some _ (sym none ∙ ap (option_map (id_at shard slot)) (slice_get-get_or supply.generations slot 0 used))
