-- Ids that are put back: all slots are used, and the free ones are freed. And ids that were set back are taken again.
use Rattle.std.proofs.Common.{◌≡◌, ℕ, zero, suc, ◌+◌, ◌<◌, ◌≤◌, ◌==◌, Bool, true, false, cond, not, ◌&&◌, ◌||◌, List, [], ◌∷◌, ◌++◌, length, map, Option, Some, None, refl, sym, ap, ◌∙◌, subst, arith, get_or}
use Rattle.std.proofs.lemmas.Bool.{true≢false, eqb-true}
use Rattle.std.proofs.lemmas.List.{append-nil, append_assoc, length_push}
use Rattle.std.specs.List.{slice_get, list_any}
use Rattle.std.specs.Cmp.{eq_by_cmp_equiv}
use Rattle.std.specs.FinSet as set
use Rattle.hlr_types.specs.Orders.{octets_cmp}
use Rattle.hlr_types.proofs.OrderLemmas.{octets_total, octets_exact, same_octets, eq_octets, ne_octets}
use Rattle.tidalloc.proofs.IdLemmas.{slot_of-id_at, generation_of-id_at, IsIdOf-id_at}
use Rattle.tidalloc.proofs.ListingLemmas.{is_id, AreDistinct, any-ascending, distinct-ascending, distinct-rest}
use Rattle.tidalloc.proofs.SlotLemmas.{contains-live_of, within_free}
use Rattle.tidalloc.proofs.StepLemmas.{is_small, is_begun, own_slots}
use Rattle.tidalloc.proofs.SupplyLemmas.{generations, counted, generation_at}
use Rattle.tidalloc.proofs.TakenLemmas.{IsTaken, next-untaken_all, after-untaken_all, apart-distinct}
use Rattle.tidalloc.proofs.UseLemmas.{own_of-live, there_of-live, begun_of-live, small_of-live, within_slots}
use Rattle.tidalloc.specs.declared.slot.Slot.{Slot}
use Rattle.tidalloc.specs.LiveIds.{LiveIds, id_at, slot_of, generation_of, is_live, given_back}
use Rattle.tidalloc.specs.Resumed.{with_used, used_ids, UsesInTurn, GivesInTurn, IsResumed, AreTakenAgain, ascending}
use Rattle.tidalloc.specs.Slots.{ids_from, live_of, ids_of, supply_of, is_at, is_free, generation_in, AreSlots}

-- ---- ids that were set back

any-after : (q : List ℕ) (front rest : List (List ℕ)) → list_any (is_id q) rest ≡ true → list_any (is_id q) (front ++ rest) ≡ true
any-after q [] rest e = e
any-after q (x ∷ front) rest e =
    elim (is_id q x) as (λ b. (b || list_any (is_id q) (front ++ rest)) ≡ true) [ true ↦ refl | false ↦ any-after q front rest e ]

pub taken_again : (shard first : ℕ) (slots : List Slot) (free : List ℕ) (freed : Option (List ℕ)) (room of_free : ℕ)
    → AreSlots shard first slots free freed room of_free → (front more : List (List ℕ)) (id : List ℕ)
    → ascending (live_of shard slots) ≡ front ++ id ∷ more → AreTakenAgain (ids_of shard first slots free freed) id more
taken_again shard first slots free freed room of_free a front more id e =
    let apart = distinct-rest front (id ∷ more) (subst AreDistinct e (distinct-ascending (live_of shard slots))) in
    let live : (q : List ℕ) → list_any (is_id q) (id ∷ more) ≡ true → set.contains (live_of shard slots) q ≡ true =
    λ q there. sym (any-ascending (live_of shard slots) q) ∙ ap (list_any (is_id q)) e ∙ any-after q front (id ∷ more) there in
    let own : set.contains (live_of shard slots) id ≡ true = live id (ap (λ b. b || list_any (is_id id) more) (eq_octets id id refl)) in
    let is : IsTaken shard (supply_of first slots free) id = record {
      within = omega (arith, counted slots, within_slots shard first slots free freed room of_free id a own);
      own = own_of-live shard first slots free freed room of_free id a own;
      there = generation_at 0 slots (slot_of id) ∙ ap (generation_in 0) (there_of-live shard first slots free freed room of_free id a own);
      begun = begun_of-live shard first slots free freed room of_free id a own;
      few = small_of-live shard first slots free freed room of_free id a own;
    } in
    let slots_apart = apart-distinct id more apart.0 (λ q there same. own_slots shard slots a.few id q own (live q (or_later (is_id q id) there)) same) in record {
      next = next-untaken_all shard (supply_of first slots free) id more slots_apart is;
      after = after-untaken_all shard (supply_of first slots free) id more slots_apart is;
    }
  where
    or_later : (b : Bool) {c : Bool} → c ≡ true → (b || c) ≡ true
    or_later true e = refl
    or_later false e = e

-- ---- all slots are used

-- the ids of a shard of which all slots are used
abbrev full : ℕ → ℕ → List ℕ → LiveIds
full shard first gs = record {
  shard = shard;
  live = set.from_list (used_ids shard 0 gs);
  freed_last = None;
  supply = record { first = first; generations = gs; free = [] };
}

abbrev Good : List ℕ → Type 0
Good [] = Unit {0}
Good (g ∷ gs) = ((0 < g) × (g < 4096)) × Good gs

good-slots : (first : ℕ) (slots : List Slot) → ((k : ℕ) → is_small first (slice_get slots k)) → ((k : ℕ) → is_begun (slice_get slots k)) → Good (generations slots)
good-slots first [] small begun = tt
good-slots first (s ∷ slots) small begun = ((begun 0, small 0), good-slots first slots (λ k. small (suc k)) (λ k. begun (suc k)))

used_ids-push : (shard n : ℕ) (gs : List ℕ) (g : ℕ) → used_ids shard n (gs ++ g ∷ []) ≡ used_ids shard n gs ++ id_at shard (n + length gs) g ∷ []
used_ids-push shard n [] g = let e : n ≡ n + 0 = omega arith in ap (λ m. id_at shard m g ∷ []) e
used_ids-push shard n (x ∷ gs) g =
    let e : n + 1 + length gs ≡ n + suc (length gs) = omega arith in
    ap (λ ids. id_at shard n x ∷ ids) (used_ids-push shard (n + 1) gs g)
    ∙ ap (λ m. id_at shard n x ∷ (used_ids shard (n + 1) gs ++ id_at shard m g ∷ [])) e

module _ (shard first : ℕ) (in_range : shard < 16) where
  full-more : (gs : List ℕ) (g : ℕ) → length gs < 4096 → with_used (full shard first gs) (id_at shard (length gs) g) ≡ full shard first (gs ++ g ∷ [])
  full-more gs g few =
      let pushed : used_ids shard 0 (gs ++ g ∷ []) ≡ used_ids shard 0 gs ++ id_at shard (length gs) g ∷ [] =
      used_ids-push shard 0 gs g ∙ (let e : 0 + length gs ≡ length gs = omega arith in ap (λ m. used_ids shard 0 gs ++ id_at shard m g ∷ []) e) in
      let live : set.insert (set.from_list (used_ids shard 0 gs)) (id_at shard (length gs) g) ≡ set.from_list {R = octets_cmp} (used_ids shard 0 (gs ++ g ∷ [])) =
      sym (ap (λ (ids : List (List ℕ)). set.from_list {R = octets_cmp} ids) pushed
      ∙ set.from_list_push octets_total octets_exact (used_ids shard 0 gs) (id_at shard (length gs) g)) in
      let more : gs ++ generation_of (id_at shard (length gs) g) ∷ [] ≡ gs ++ g ∷ [] =
      ap (λ h. gs ++ h ∷ []) (generation_of-id_at shard (length gs) g few) in
      λ i. record { shard = shard; live = live i; freed_last = None; supply = record { first = first; generations = more i; free = [] } }

  uses-rest : (done rest : List ℕ) → length done + length rest ≤ 4096 → Good rest
      → UsesInTurn (full shard first done) (used_ids shard (length done) rest) (full shard first (done ++ rest))
  uses-rest done [] few good = ap (full shard first) (sym (append-nil done))
  uses-rest done (g ∷ rest) few good =
      let one : length done < 4096 = omega arith in
      let rests = uses-rest (done ++ g ∷ []) rest (omega (arith, length_push done g)) good.1 in (
        record {
          of_shard = IsIdOf-id_at shard (length done) g in_range one good.0.0 good.0.1;
          slot = slot_of-id_at shard (length done) g one;
          few = one;
          begun = subst (λ h. 0 < h) (sym (generation_of-id_at shard (length done) g one)) good.0.0;
        },
        subst (λ (v : LiveIds). UsesInTurn v (used_ids shard (length done + 1) rest) (full shard first (done ++ g ∷ rest))) (sym (full-more done g one))
            (subst (λ n. UsesInTurn (full shard first (done ++ g ∷ [])) (used_ids shard n rest) (full shard first (done ++ g ∷ rest))) (length_push done g)
            (subst (λ (gs : List ℕ). UsesInTurn (full shard first (done ++ g ∷ [])) (used_ids shard (length (done ++ g ∷ [])) rest) (full shard first gs))
            (append_assoc done (g ∷ []) rest) rests)),
      )

-- ---- the free ones are freed

abbrev all_given : LiveIds → List (List ℕ) → LiveIds
all_given v [] = v
all_given v (id ∷ more) = all_given (given_back v id) more

abbrev AreLive : LiveIds → List (List ℕ) → Type 0
AreLive v [] = Unit {0}
AreLive v (id ∷ more) = (is_live v id ≡ true) × AreLive v more

-- the others stay live
others : (v : LiveIds) (id : List ℕ) (more : List (List ℕ)) → list_any (is_id id) more ≡ false → AreLive v more → AreLive (given_back v id) more
others v id [] apart live = tt
others v id (x ∷ xs) apart live = (
  set.contains-remove octets_total v.live id x
      ∙ ap (λ b. not b && set.contains v.live x) ((eq_by_cmp_equiv octets_total).symm x id ∙ here (is_id id x) apart)
      ∙ live.0,
  others v id xs (later (is_id id x) apart) live.1,
)
  where
    here : (b : Bool) → (b || list_any (is_id id) xs) ≡ false → b ≡ false
    here true e = e
    here false e = refl

    later : (b : Bool) → (b || list_any (is_id id) xs) ≡ false → list_any (is_id id) xs ≡ false
    later true e = absurd (true≢false e)
    later false e = e

gives-all : (v : LiveIds) (ids : List (List ℕ)) → AreLive v ids → AreDistinct ids → GivesInTurn v ids (all_given v ids)
gives-all v [] live apart = refl
gives-all v (id ∷ more) live apart = (live.0, gives-all (given_back v id) more (others v id more apart.0 live.1) apart.1)

abbrev removed : set.FinSet octets_cmp → List (List ℕ) → set.FinSet octets_cmp
removed ids [] = ids
removed ids (id ∷ more) = removed (set.remove ids id) more

abbrev last_of : Option (List ℕ) → List (List ℕ) → Option (List ℕ)
last_of last [] = last
last_of last (id ∷ more) = last_of (Some id) more

-- the ids after some are freed
abbrev after_all : LiveIds → List (List ℕ) → List ℕ → LiveIds
after_all v ids free = record {
  shard = v.shard;
  live = removed v.live ids;
  freed_last = last_of v.freed_last ids;
  supply = record { first = v.supply.first; generations = v.supply.generations; free = free };
}

all_given-is : (v : LiveIds) (ids : List (List ℕ)) → all_given v ids ≡ after_all v ids (v.supply.free ++ map slot_of ids)
all_given-is v [] = ap (after_all v []) (sym (append-nil v.supply.free))
all_given-is v (id ∷ more) =
    all_given-is (given_back v id) more
    ∙ ap (after_all v (id ∷ more)) (append_assoc v.supply.free (slot_of id ∷ []) (map slot_of more))

contains-removed : (ids : set.FinSet octets_cmp) (gone : List (List ℕ)) (q : List ℕ)
    → set.contains (removed ids gone) q ≡ (not (list_any (is_id q) gone) && set.contains ids q)
contains-removed ids [] q = refl
contains-removed ids (id ∷ more) q =
    contains-removed (set.remove ids id) more q
    ∙ ap (λ b. not (list_any (is_id q) more) && b) (set.contains-remove octets_total ids id q)
    ∙ neither (is_id q id) (list_any (is_id q) more) (set.contains ids q)
  where
    neither : (a b c : Bool) → (not b && (not a && c)) ≡ (not (a || b) && c)
    neither true true c = refl
    neither true false c = refl
    neither false b c = refl

module _ (shard first : ℕ) (slots : List Slot) (free : List ℕ) (freed : Option (List ℕ)) (room of_free : ℕ)
    (a : AreSlots shard first slots free freed room of_free) where
  -- the id of a slot
  abbrev f : ℕ → List ℕ
  f n = id_at shard n (get_or (generations slots) n 0)

  abbrev all_live : List Slot → List Slot
  all_live xs = map (λ (s : Slot). record { generation = s.generation; is_live = true }) xs

  used-live : (n : ℕ) (xs : List Slot) → used_ids shard n (generations xs) ≡ ids_from shard n (all_live xs)
  used-live n [] = refl
  used-live n (s ∷ xs) = ap (λ ids. id_at shard n s.generation ∷ ids) (used-live (n + 1) xs)

  count-live : (xs : List Slot) → length (all_live xs) ≡ length xs
  count-live [] = refl
  count-live (s ∷ xs) = ap suc (count-live xs)

  abbrev is_its : List ℕ → Option Slot → Bool
  is_its q None = false
  is_its q (Some s) = is_id q (id_at shard (slot_of q) s.generation)

  at_live : (q : List ℕ) (xs : List Slot) (k : ℕ) → is_at shard q (slice_get (all_live xs) k) ≡ is_its q (slice_get xs k)
  at_live q [] k = refl
  at_live q (s ∷ xs) zero = refl
  at_live q (s ∷ xs) (suc k) = at_live q xs k

  contains-full : (q : List ℕ) → set.contains (full shard first (generations slots)).live q ≡ is_its q (slice_get slots (slot_of q))
  contains-full q =
      ap (λ (ids : List (List ℕ)). set.contains (set.from_list {R = octets_cmp} ids) q) (used-live 0 slots)
      ∙ contains-live_of shard q (all_live slots) (omega (arith, count-live slots, a.few))
      ∙ at_live q slots (slot_of q)

  generation_there : (n : ℕ) (s : Slot) → slice_get slots n ≡ Some s → get_or (generations slots) n 0 ≡ s.generation
  generation_there n s stands = generation_at 0 slots n ∙ ap (generation_in 0) stands

  -- what is_free says
  with_free : {P : Type 0} (o : Option Slot) → is_free o ≡ true → ((s : Slot) → o ≡ Some s → P) → P
  with_free None e gives = absurd (true≢false (sym e))
  with_free (Some s) e gives = gives s refl

  f-live : (n : ℕ) → is_free (slice_get slots n) ≡ true → is_live (full shard first (generations slots)) (f n) ≡ true
  f-live n e = with_free (slice_get slots n) e (λ s stands.
      let few : n < 4096 = omega (arith, within_free slots n e, a.few) in
      contains-full (f n)
      ∙ ap (λ m. is_its (f n) (slice_get slots m)) (slot_of-id_at shard n (get_or (generations slots) n 0) few)
      ∙ ap (is_its (f n)) stands
      ∙ ap (λ m. is_id (f n) (id_at shard m s.generation)) (slot_of-id_at shard n (get_or (generations slots) n 0) few)
      ∙ eq_octets (f n) (id_at shard n s.generation) (ap (id_at shard n) (generation_there n s stands)))

  AllFree : List ℕ → Type 0
  AllFree xs = (i : ℕ) → i < length xs → is_free (slice_get slots (get_or xs i 0)) ≡ true

  each_live : (xs : List ℕ) → AllFree xs → AreLive (full shard first (generations slots)) (map f xs)
  unfolding AllFree
  each_live [] each = tt
  each_live (n ∷ xs) each = (f-live n (each 0 (omega arith)), each_live xs (λ i h. each (suc i) (omega arith)))

  apart_from_all : (n : ℕ) (xs : List ℕ) → n < 4096 → AllFree xs → ((j : ℕ) → j < length xs → n ≡ get_or xs j 0 → ⊥)
      → list_any (is_id (f n)) (map f xs) ≡ false
  unfolding AllFree
  apart_from_all n [] few each apart = refl
  apart_from_all n (m ∷ xs) few each apart =
      let small : m < 4096 = omega (arith, within_free slots m (each 0 (omega arith)), a.few) in
      ap (λ b. b || list_any (is_id (f n)) (map f xs)) (ne_octets (f n) (f m) (λ same. apart 0 (omega arith)
      (sym (slot_of-id_at shard n (get_or (generations slots) n 0) few) ∙ ap slot_of same ∙ slot_of-id_at shard m (get_or (generations slots) m 0) small)))
      ∙ apart_from_all n xs few (λ i h. each (suc i) (omega arith)) (λ j h. apart (suc j) (omega arith))

  all_distinct : (xs : List ℕ) → AllFree xs → ((i j : ℕ) → i < j → j < length xs → get_or xs i 0 ≡ get_or xs j 0 → ⊥) → AreDistinct (map f xs)
  unfolding AllFree
  all_distinct [] each apart = tt
  all_distinct (n ∷ xs) each apart = (
    apart_from_all n xs (omega (arith, within_free slots n (each 0 (omega arith)), a.few)) (λ i h. each (suc i) (omega arith))
        (λ j h. apart 0 (suc j) (omega arith) (omega arith)),
    all_distinct xs (λ i h. each (suc i) (omega arith)) (λ i j h k. apart (suc i) (suc j) (omega arith) (omega arith)),
  )

  slots_of : (xs : List ℕ) → AllFree xs → map slot_of (map f xs) ≡ xs
  unfolding AllFree
  slots_of [] each = refl
  slots_of (n ∷ xs) each =
      let few : n < 4096 = omega (arith, within_free slots n (each 0 (omega arith)), a.few) in
      ap (λ m. m ∷ map slot_of (map f xs)) (slot_of-id_at shard n (get_or (generations slots) n 0) few)
      ∙ ap (λ ys. n ∷ ys) (slots_of xs (λ i h. each (suc i) (omega arith)))

  -- which ids are freed
  freed_at : (q : List ℕ) (xs : List ℕ) → list_any (is_id q) (map f xs) ≡ true → (i : ℕ) × (i < length xs) × (is_id q (f (get_or xs i 0)) ≡ true)
  freed_at q [] e = absurd (true≢false (sym e))
  freed_at q (n ∷ xs) e =
      elim (is_id q (f n)) as (λ b. is_id q (f n) ≡ b → (b || list_any (is_id q) (map f xs)) ≡ true
      → (i : ℕ) × (i < length (n ∷ xs)) × (is_id q (f (get_or (n ∷ xs) i 0)) ≡ true)) [
        | true ↦ λ here _. (0, omega arith, here)
        | false ↦ λ _ e. let rest = freed_at q xs e in (suc rest.0, omega (arith, rest.1), rest.2)
      ] refl e

  in_freed : (q : List ℕ) (k : ℕ) (xs : List ℕ) → list_any (λ n. k == n) xs ≡ true → is_id q (f k) ≡ true → list_any (is_id q) (map f xs) ≡ true
  in_freed q k [] e is = absurd (true≢false (sym e))
  in_freed q k (n ∷ xs) e is =
      elim (k == n) as (λ b. (k == n) ≡ b → (b || list_any (λ n. k == n) xs) ≡ true → (is_id q (f n) || list_any (is_id q) (map f xs)) ≡ true) [
        | true ↦ λ same _. ap (λ b. b || list_any (is_id q) (map f xs)) (ap (λ m. is_id q (f m)) (sym (eqb-true k n same)) ∙ is)
        | false ↦ λ _ e. or_later (is_id q (f n)) (in_freed q k xs e is)
      ] refl e
    where
      or_later : (b : Bool) {c : Bool} → c ≡ true → (b || c) ≡ true
      or_later true e = refl
      or_later false e = e

  and_false : (b : Bool) → (b && false) ≡ false
  and_false true = refl
  and_false false = refl

  -- an id stays live exactly if its slot is not free
  stays : (q : List ℕ) (o : Option Slot) → slice_get slots (slot_of q) ≡ o
      → (not (list_any (is_id q) (map f free)) && is_its q o) ≡ is_at shard q o
  stays q None e = and_false (not (list_any (is_id q) (map f free)))
  stays q (Some s) e =
      elim (is_id q (id_at shard (slot_of q) s.generation)) as (λ u. is_id q (id_at shard (slot_of q) s.generation) ≡ u
      → (not (list_any (is_id q) (map f free)) && u) ≡ (s.is_live && u)) [
        | true ↦ λ own. look own s.is_live refl (list_any (is_id q) (map f free)) refl
        | false ↦ λ _. and_false (not (list_any (is_id q) (map f free))) ∙ sym (and_false s.is_live)
      ] refl
    where
      look : is_id q (id_at shard (slot_of q) s.generation) ≡ true → (l : Bool) → s.is_live ≡ l → (g : Bool) → list_any (is_id q) (map f free) ≡ g
          → (not g && true) ≡ (l && true)
      look own true live true gone =
          let at = freed_at q free gone in
          let n = get_or free at.0 0 in
          let few : n < 4096 = omega (arith, within_free slots n (a.free_ones at.0 at.1), a.few) in
          let slot : slot_of q ≡ n = ap slot_of (same_octets q (f n) at.2) ∙ slot_of-id_at shard n (get_or (generations slots) n 0) few in
          let is : is_free (Some s) ≡ true = ap is_free (sym e) ∙ ap (λ m. is_free (slice_get slots m)) slot ∙ a.free_ones at.0 at.1 in
          let none : is_free (Some s) ≡ false = ap (λ b. cond b false true) live in
          absurd (true≢false (sym is ∙ none))
      look own true live false gone = refl
      look own false live true gone = refl
      look own false live false gone =
          let is : is_free (slice_get slots (slot_of q)) ≡ true = ap is_free e ∙ ap (λ b. cond b false true) live in
          let there = in_freed q (slot_of q) free (a.all_free (slot_of q) is)
          (ap (λ g. is_id q (id_at shard (slot_of q) g)) (generation_there (slot_of q) s e) ∙ own) in
          absurd (true≢false (sym there ∙ gone))

  live_left : removed (full shard first (generations slots)).live (map f free) ≡ live_of shard slots
  live_left =
      set.same_set octets_total octets_exact _ _ (λ q.
      contains-removed (full shard first (generations slots)).live (map f free) q
      ∙ ap (λ b. not (list_any (is_id q) (map f free)) && b) (contains-full q)
      ∙ stays q (slice_get slots (slot_of q)) refl
      ∙ sym (contains-live_of shard q slots a.few))

  given_all : all_given (full shard first (generations slots)) (map f free)
      ≡ record (ids_of shard first slots free freed) { freed_last = last_of None (map f free) }
  unfolding AllFree
  given_all =
      all_given-is (full shard first (generations slots)) (map f free)
      ∙ (λ i. record {
        shard = shard;
        live = live_left i;
        freed_last = last_of None (map f free);
        supply = record { first = first; generations = generations slots; free = slots_of free a.free_ones i };
      })

  pub resumed : IsResumed (ids_of shard first slots free freed)
  unfolding AllFree
  resumed = record {
    used = full shard first (generations slots);
    uses = uses-rest shard first a.in_range [] (generations slots) (omega (arith, counted slots, a.few)) (good-slots first slots a.generations a.begun);
    last = last_of None (map f free);
    gives = subst (GivesInTurn (full shard first (generations slots)) (map f free)) given_all
        (gives-all (full shard first (generations slots)) (map f free) (each_live free a.free_ones) (all_distinct free a.free_ones a.different));
  }
