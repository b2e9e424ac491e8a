-- Each event has a step in a sound state, except a change without room.
use Rattle.std.proofs.Common.{◌≡◌, ◌/◌, ◌%◌, ◌<◌, ◌≤◌, ℕ, zero, suc, ℤ, List, [], ◌∷◌, ◌++◌, map, length, take, slice_index, Bool, true, false, cond, refl, sym, ap, ◌∙◌, subst, ◌⊎◌, inl, inr, Option, Some, None, is_some, IsTrue, arith, lit<, nat_cmp, int_cmp, int_eq, is_gt, Ordering, Less, Equal, Greater, length-take-le}
use Rattle.std.specs.Ordering.{on, then_cmp, ordering_reverse}
use Rattle.std.specs.Cmp.{IsTotalOrder, nat_cmp_total, int_cmp_total, then_total, on_total}
use Rattle.std.specs.Cmp.Lexicographic.{slice_cmp, nat_list_cmp_total}
use Rattle.std.proofs.lemmas.Bool.{both_ways, cases_lt, cases_eq}
use Rattle.machine.specs.Step.{Answer, Full, HasNoRoom, IsNewId, Step, Taken, WouldOverflow, moved, outcome, outcome_in, seen, subject_of, taken, ticked}
use Rattle.machine.specs.State.{AreOpen, Dialogue, Invocation, IsFull, IsIdOf, State, local_of_nobody}
use Rattle.machine.specs.Turns.{Begins, Changes, Closes, Continues, Dismissed, Expires, Expiry, IsDue, NoneDue, OneDue, Ticks, Turn, TurnsTo, concern, invocation_of, named, triple_cmp, turn_of_verdict}
use Rattle.machine.specs.Sent.{Cause, SentAbort}
use Rattle.machine.specs.Events.{Change, Clock, Event, Expire, Frame, Operator}
use Rattle.machine.specs.Received.{Component}
use Rattle.machine.specs.Keys.{Every, IsIn, IsNotIn, shard_of, shard_of_id}
use Rattle.machine.specs.Sound.{Sound}
use Rattle.machine.specs.declared.numbers.TheConstants.{RESOURCE_LIMITATION}
use Rattle.machine.specs.Routing.{route}
use Rattle.machine.specs.Outcome.{send}
use Rattle.machine_laws.specs.Worked.{one}
use Rattle.machine_laws.specs.Worked.{one}
use Rattle.machine_laws.proofs.Keys.{none_some, some_inj, cases_same}
use Rattle.machine_laws.proofs.Rising.{int_is}
use Rattle.machine_laws.proofs.Counting.{not_full, every_take, different_take}
use Rattle.machine_laws.proofs.Views.{View, view, Idly, Ticking, Beginning, Continuing, Closing, Expiring, Changing}
use Rattle.machine_laws.proofs.Steps.{Facts, facts, shard_small}
use Rattle.machine_laws.proofs.Holding.{Bare, bare_came}

-- all lists of octets of a length

in_append : (i : List ℕ) (xs ys : List (List ℕ)) → IsIn i xs ⊎ IsIn i ys → IsIn i (xs ++ ys)
in_append i [] ys (inl h) = absurd h
in_append i [] ys (inr h) = h
in_append i (x ∷ xs) ys (inl (inl e)) = inl e
in_append i (x ∷ xs) ys (inl (inr h)) = inr (in_append i xs ys (inl h))
in_append i (x ∷ xs) ys (inr h) = inr (in_append i xs ys (inr h))

in_map : (o : ℕ) (i : List ℕ) (xs : List (List ℕ)) → IsIn i xs → IsIn (o ∷ i) (map (λ x. o ∷ x) xs)
in_map o i [] h = absurd h
in_map o i (x ∷ xs) (inl e) = inl (ap (λ (y : List ℕ). o ∷ y) e)
in_map o i (x ∷ xs) (inr h) = inr (in_map o i xs h)

with_first : ℕ → List (List ℕ) → List (List ℕ)
with_first zero xs = []
with_first (suc o) xs = map (λ x. o ∷ x) xs ++ with_first o xs

in_with_first : (n o : ℕ) (i : List ℕ) (xs : List (List ℕ)) → o < n → IsIn i xs → IsIn (o ∷ i) (with_first n xs)
unfolding with_first
in_with_first zero o i xs h k = absurd (omega arith)
in_with_first (suc n) o i xs h k = go (cases_eq o n) (λ less. in_with_first n o i xs less k)
  where
    go : (o ≡ n) ⊎ (o ≡ n → ⊥) → (o < n → IsIn (o ∷ i) (with_first n xs)) → IsIn (o ∷ i) (map (λ x. n ∷ x) xs ++ with_first n xs)
    go (inl e) next = in_append (o ∷ i) (map (λ x. n ∷ x) xs) (with_first n xs)
        (inl (subst (λ (m : ℕ). IsIn (m ∷ i) (map (λ x. n ∷ x) xs)) (sym e) (in_map n i xs k)))
    go (inr ne) next = in_append (o ∷ i) (map (λ x. n ∷ x) xs) (with_first n xs) (inr (next (omega arith)))

octet_lists : ℕ → List (List ℕ)
octet_lists zero = [] ∷ []
octet_lists (suc n) = with_first 256 (octet_lists n)

in_octet_lists : (n : ℕ) (i : List ℕ) → length i ≡ n → Every (λ o. o < 256) i → IsIn i (octet_lists n)
unfolding octet_lists
in_octet_lists zero [] e h = inl refl
in_octet_lists zero (o ∷ i) e h = absurd (omega arith)
in_octet_lists (suc n) [] e h = absurd (omega arith)
in_octet_lists (suc n) (o ∷ i) e h = in_with_first 256 o i (octet_lists n) h.0 (in_octet_lists n i (omega arith) h.1)

all_ids : List (List ℕ)
all_ids = octet_lists 4

-- every open id is there
open_in_all : (S : State) (i : List ℕ) → Sound S → (S.dialogues i ≡ None → ⊥) → IsIn i all_ids
unfolding all_ids
open_in_all S i sound h = by (S.dialogues i) refl
  where
    by : (o : Option Dialogue) → S.dialogues i ≡ o → IsIn i (octet_lists 4)
    by None e = absurd (h e)
    by (Some d) e = let id : IsIdOf (shard_of d.subscriber) i = (sound.dialogues i d e).id in in_octet_lists 4 i id.four id.octets

-- the open ids of a shard among these

is_in : (i : List ℕ) (js : List (List ℕ)) → IsIn i js ⊎ (IsIn i js → ⊥)
is_in i [] = inr (λ h. h)
is_in i (j ∷ js) = go (cases_same i j) (is_in i js)
  where
    go : (i ≡ j) ⊎ (i ≡ j → ⊥) → IsIn i js ⊎ (IsIn i js → ⊥) → IsIn i (j ∷ js) ⊎ (IsIn i (j ∷ js) → ⊥)
    go (inl e) r = inl (inl e)
    go (inr ne) (inl h) = inl (inr h)
    go (inr ne) (inr no_one) = inr (λ h. off h)
      where
        off : IsIn i (j ∷ js) → ⊥
        off (inl e) = ne e
        off (inr h) = no_one h

not_in : (i : List ℕ) (js : List (List ℕ)) → (IsIn i js → ⊥) → IsNotIn i js
not_in i [] h = tt
not_in i (j ∷ js) h = (λ e. h (inl e), not_in i js (λ k. h (inr k)))

record OpenOnes (S : State) (n : ℕ) (js : List (List ℕ)) : Type 0 where
  pub ids : List (List ℕ)
  pub open_ones : AreOpen S n ids
  pub all : (i : List ℕ) → IsIn i js → shard_of_id i ≡ n → (S.dialogues i ≡ None → ⊥) → IsIn i ids

open_ones_of : (S : State) (n : ℕ) (js : List (List ℕ)) → OpenOnes S n js
open_ones_of S n [] = record { ids = []; open_ones = record { different = tt; open_ones = tt }; all = λ i h e k. absurd h }
open_ones_of S n (j ∷ js) = go (cases_eq (shard_of_id j) n) (S.dialogues j) refl (open_ones_of S n js)
  where
    skip : (r : OpenOnes S n js) → (shard_of_id j ≡ n → (S.dialogues j ≡ None → ⊥) → IsIn j r.ids) → OpenOnes S n (j ∷ js)
    skip r h = record { ids = r.ids; open_ones = r.open_ones; all = λ i m e k. by i m e k }
      where
        by : (i : List ℕ) → IsIn i (j ∷ js) → shard_of_id i ≡ n → (S.dialogues i ≡ None → ⊥) → IsIn i r.ids
        by i (inl q) e k = subst (λ (z : List ℕ). IsIn z r.ids) (sym q) (h (ap shard_of_id (sym q) ∙ e) (λ z. k (ap S.dialogues q ∙ z)))
        by i (inr m) e k = r.all i m e k

    add : (r : OpenOnes S n js) → shard_of_id j ≡ n → (S.dialogues j ≡ None → ⊥) → (IsIn j r.ids → ⊥) → OpenOnes S n (j ∷ js)
    add r e k new_one = record {
      ids = j ∷ r.ids;
      open_ones = record { different = (not_in j r.ids new_one, r.open_ones.different); open_ones = ((e, k), r.open_ones.open_ones) };
      all = λ i m e k. by i m e k;
    }
      where
        by : (i : List ℕ) → IsIn i (j ∷ js) → shard_of_id i ≡ n → (S.dialogues i ≡ None → ⊥) → IsIn i (j ∷ r.ids)
        by i (inl q) e k = inl q
        by i (inr m) e k = inr (r.all i m e k)

    go : (shard_of_id j ≡ n) ⊎ (shard_of_id j ≡ n → ⊥) → (o : Option Dialogue) → S.dialogues j ≡ o → (r : OpenOnes S n js) → OpenOnes S n (j ∷ js)
    go (inr ne) o e r = skip r (λ q. absurd (ne q))
    go (inl q) None e r = skip r (λ q k. absurd (k e))
    go (inl q) (Some d) e r = again (is_in j r.ids)
      where
        again : IsIn j r.ids ⊎ (IsIn j r.ids → ⊥) → OpenOnes S n (j ∷ js)
        again (inl h) = skip r (λ q k. h)
        again (inr h) = add r q (λ z. none_some d _ z e) h

-- a shard is full or not
pub full_or_not : (S : State) (n : ℕ) → Sound S → IsFull S n ⊎ (IsFull S n → ⊥)
full_or_not S n sound = go (cases_lt (length (open_ones_of S n all_ids).ids) 4096)
  where
    go : (length (open_ones_of S n all_ids).ids < 4096) ⊎ (4096 ≤ length (open_ones_of S n all_ids).ids) → IsFull S n ⊎ (IsFull S n → ⊥)
    go (inl h) = inr (not_full S n (open_ones_of S n all_ids).ids (λ i e k. (open_ones_of S n all_ids).all i (open_in_all S i sound k) e k) h)
    go (inr h) = inl (
      take 4096 (open_ones_of S n all_ids).ids,
      record {
        different = different_take 4096 _ (open_ones_of S n all_ids).open_ones.different;
        open_ones = every_take 4096 _ _ (open_ones_of S n all_ids).open_ones.open_ones;
      },
      length-take-le 4096 (open_ones_of S n all_ids).ids h,
    )

-- an id that is free

candidate : ℕ → ℕ → List ℕ
candidate n k = n ∷ 1 ∷ k / 256 ∷ k % 256 ∷ []

candidates_differ : (n j k : ℕ) → candidate n j ≡ candidate n k → j ≡ k
unfolding candidate
candidates_differ n j k e =
    let high : j / 256 ≡ k / 256 = ap (λ i. slice_index i 2) e in
    let low : j % 256 ≡ k % 256 = ap (λ i. slice_index i 3) e in
    omega arith

candidate_is : (n k : ℕ) → n < 16 → k < 65536 → IsIdOf n (candidate n k)
unfolding candidate shard_of_id
candidate_is n k small few = record {
  four = refl;
  octets = (omega arith, (lit< tt, (omega arith, (omega arith, tt))));
  shard = refl;
  not_zero = λ
      (p, q, r). absurd (omega (arith, p));
}

-- a free one below m, or m that are open
search_free : (S : State) (n m : ℕ) → n < 16 → m ≤ 65536 → ((k : ℕ) × (k < 65536) × (S.dialogues (candidate n k) ≡ None))
    ⊎ ((is : List (List ℕ)) × AreOpen S n is × (length is ≡ m) × ((k : ℕ) → m ≤ k → IsNotIn (candidate n k) is))
search_free S n zero small few = inr ([], record { different = tt; open_ones = tt }, refl, (λ k h. tt))
search_free S n (suc m) small few = go (search_free S n m small (omega arith)) (S.dialogues (candidate n m)) refl
  where
    go : ((k : ℕ) × (k < 65536) × (S.dialogues (candidate n k) ≡ None))
        ⊎ ((is : List (List ℕ)) × AreOpen S n is × (length is ≡ m) × ((k : ℕ) → m ≤ k → IsNotIn (candidate n k) is)) → (o : Option Dialogue)
        → S.dialogues (candidate n m) ≡ o
        → ((k : ℕ) × (k < 65536) × (S.dialogues (candidate n k) ≡ None))
        ⊎ ((is : List (List ℕ)) × AreOpen S n is × (length is ≡ suc m) × ((k : ℕ) → suc m ≤ k → IsNotIn (candidate n k) is))
    go (inl found) o e = inl found
    go (inr rest) None e = inl (m, omega arith, e)
    go (inr (is, o, len, apart)) (Some d) e = inr (
      candidate n m ∷ is,
      record {
        different = (apart m (omega arith), o.different);
        open_ones =
            (((candidate_is n m small (omega arith)).shard, λ z. none_some d _ z e), o.open_ones);
      },
      omega arith,
      (λ k h. (λ q. let same_one : k ≡ m = candidates_differ n k m q in absurd (omega arith), apart k (omega arith))),
    )

pub free_id : (S : State) (n : ℕ) → Sound S → n < 16 → (new : List ℕ) × IsNewId S n new
free_id S n sound small = go (search_free S n 4097 small (omega arith))
  where
    go : ((k : ℕ) × (k < 65536) × (S.dialogues (candidate n k) ≡ None))
        ⊎ ((is : List (List ℕ)) × AreOpen S n is × (length is ≡ 4097) × ((k : ℕ) → 4097 ≤ k → IsNotIn (candidate n k) is)) → (new : List ℕ) × IsNewId S n new
    go (inl (k, few, free)) = (candidate n k, record { of_shard = candidate_is n k small few; is_new = free })
    go (inr (is, o, len, apart)) = let most : length is ≤ 4096 = sound.few n is o in absurd (omega arith)

-- the least that is due

pub record Triple : Type 0 where
  pub deadline : ℕ
  pub id : List ℕ
  pub invoke : ℤ

abbrev order : Triple → Triple → Ordering
order = then_cmp (on (λ (t : Triple). t.deadline) nat_cmp) (then_cmp (on (λ (t : Triple). t.id) (slice_cmp nat_cmp)) (on (λ (t : Triple). t.invoke) int_cmp))

order_total : IsTotalOrder order
order_total = then_total (on_total (λ (t : Triple). t.deadline) nat_cmp_total)
    (then_total (on_total (λ (t : Triple). t.id) nat_list_cmp_total) (on_total (λ (t : Triple). t.invoke) int_cmp_total))

not_greater : (a b : Ordering) → a ≡ ordering_reverse b → is_gt a ≡ true → is_gt b ≡ false
not_greater a Less e h = refl
not_greater a Equal e h = refl
not_greater a Greater e h = absurd (both_ways _ (ap (λ o. is_gt o) e) h)

-- no more than a third one
order_chain : (x y z : Triple) → is_gt (order x y) ≡ false → is_gt (order y z) ≡ false → is_gt (order x z) ≡ false
order_chain x y z h g = by (order x y) (order y z) refl refl h g
  where
    back : (o : Ordering) → order z x ≡ o → o ≡ Greater → is_gt (order x z) ≡ false
    back o e q = ap (λ p. is_gt p) (order_total.antisymm x z) ∙ ap (λ p. is_gt (ordering_reverse p)) (e ∙ q)

    by : (a b : Ordering) → order x y ≡ a → order y z ≡ b → is_gt a ≡ false → is_gt b ≡ false → is_gt (order x z) ≡ false
    by Greater b p q h g = absurd (both_ways true h refl)
    by a Greater p q h g = absurd (both_ways true g refl)
    by Equal b p q h g = ap (λ o. is_gt o) (order_total.congr x y z p ∙ q) ∙ g
    by Less Less p q h g = ap (λ o. is_gt o) (order_total.trans x y z p q)
    by Less Equal p q h g = back (order z x) refl (order_total.congr z y x (order_total.antisymm z y ∙ ap (λ o. ordering_reverse o) q)
        ∙ order_total.antisymm y x ∙ ap (λ o. ordering_reverse o) p)

-- the least that is due among some, or none is
record LeastOf (S : State) (n : ℕ) (P : List ℕ → ℤ → Type 0) : Type 0 where
  pub i : List ℕ
  pub d : Dialogue
  pub j : ℤ
  pub v : Invocation
  pub due : IsDue S n i d j v
  pub least : (i' : List ℕ) (d' : Dialogue) (j' : ℤ) (v' : Invocation) → P i' j' → IsDue S n i' d' j' v'
      → is_gt (triple_cmp v.deadline i j v'.deadline i' j') ≡ false

abbrev NoneOf : State → ℕ → (List ℕ → ℤ → Type 0) → Type 0
NoneOf S n P = (i : List ℕ) (d : Dialogue) (j : ℤ) (v : Invocation) → P i j → IsDue S n i d j v → ⊥

abbrev Found : State → ℕ → (List ℕ → ℤ → Type 0) → Type 0
Found S n P = LeastOf S n P ⊎ NoneOf S n P

-- of two searches, the lesser
abbrev OneOf : (List ℕ → ℤ → Type 0) → (List ℕ → ℤ → Type 0) → List ℕ → ℤ → Type 0
OneOf P Q i j = P i j ⊎ Q i j

found_both : (S : State) (n : ℕ) (P Q : List ℕ → ℤ → Type 0) → Found S n P → Found S n Q → Found S n (OneOf P Q)
found_both S n P Q (inr none) (inr none') = inr (λ i d j v h due. by i d j v h due)
  where
    by : (i : List ℕ) (d : Dialogue) (j : ℤ) (v : Invocation) → P i j ⊎ Q i j → IsDue S n i d j v → ⊥
    by i d j v (inl h) due = none i d j v h due
    by i d j v (inr h) due = none' i d j v h due
found_both S n P Q (inl one) (inr none) = inl
    (record { i = one.i; d = one.d; j = one.j; v = one.v; due = one.due; least = λ i' d' j' v' h due. by i' d' j' v' h due })
  where
    by : (i' : List ℕ) (d' : Dialogue) (j' : ℤ) (v' : Invocation) → P i' j' ⊎ Q i' j' → IsDue S n i' d' j' v'
        → is_gt (triple_cmp one.v.deadline one.i one.j v'.deadline i' j') ≡ false
    by i' d' j' v' (inl h) due = one.least i' d' j' v' h due
    by i' d' j' v' (inr h) due = absurd (none i' d' j' v' h due)
found_both S n P Q (inr none) (inl one) = inl
    (record { i = one.i; d = one.d; j = one.j; v = one.v; due = one.due; least = λ i' d' j' v' h due. by i' d' j' v' h due })
  where
    by : (i' : List ℕ) (d' : Dialogue) (j' : ℤ) (v' : Invocation) → P i' j' ⊎ Q i' j' → IsDue S n i' d' j' v'
        → is_gt (triple_cmp one.v.deadline one.i one.j v'.deadline i' j') ≡ false
    by i' d' j' v' (inl h) due = absurd (none i' d' j' v' h due)
    by i' d' j' v' (inr h) due = one.least i' d' j' v' h due
found_both S n P Q (inl a) (inl b) = by (is_gt (triple_cmp a.v.deadline a.i a.j b.v.deadline b.i b.j)) refl
  where
    ta : Triple
    ta = record { deadline = a.v.deadline; id = a.i; invoke = a.j }

    tb : Triple
    tb = record { deadline = b.v.deadline; id = b.i; invoke = b.j }

    first : is_gt (triple_cmp a.v.deadline a.i a.j b.v.deadline b.i b.j) ≡ false → (i' : List ℕ) (d' : Dialogue) (j' : ℤ) (v' : Invocation) → P i' j' ⊎ Q i' j'
        → IsDue S n i' d' j' v' → is_gt (triple_cmp a.v.deadline a.i a.j v'.deadline i' j') ≡ false
    first e i' d' j' v' (inl h) due = a.least i' d' j' v' h due
    first e i' d' j' v' (inr h) due = order_chain (record { deadline = a.v.deadline; id = a.i; invoke = a.j })
        (record { deadline = b.v.deadline; id = b.i; invoke = b.j }) (record { deadline = v'.deadline; id = i'; invoke = j' }) e (b.least i' d' j' v' h due)

    second : is_gt (triple_cmp b.v.deadline b.i b.j a.v.deadline a.i a.j) ≡ false → (i' : List ℕ) (d' : Dialogue) (j' : ℤ) (v' : Invocation) → P i' j' ⊎ Q i' j'
        → IsDue S n i' d' j' v' → is_gt (triple_cmp b.v.deadline b.i b.j v'.deadline i' j') ≡ false
    second e i' d' j' v' (inr h) due = b.least i' d' j' v' h due
    second e i' d' j' v' (inl h) due = order_chain (record { deadline = b.v.deadline; id = b.i; invoke = b.j })
        (record { deadline = a.v.deadline; id = a.i; invoke = a.j }) (record { deadline = v'.deadline; id = i'; invoke = j' }) e (a.least i' d' j' v' h due)

    by : (t : Bool) → is_gt (triple_cmp a.v.deadline a.i a.j b.v.deadline b.i b.j) ≡ t → Found S n (OneOf P Q)
    by false e = inl (record { i = a.i; d = a.d; j = a.j; v = a.v; due = a.due; least = first e })
    by true e = inl (record {
      i = b.i;
      d = b.d;
      j = b.j;
      v = b.v;
      due = b.due;
      least = second
          (not_greater _ _ (order_total.antisymm (record { deadline = a.v.deadline; id = a.i; invoke = a.j })
          (record { deadline = b.v.deadline; id = b.i; invoke = b.j })) e);
    })

-- the same search
found_for : (S : State) (n : ℕ) (P Q : List ℕ → ℤ → Type 0) → ((i : List ℕ) (d : Dialogue) (j : ℤ) (v : Invocation) → Q i j → IsDue S n i d j v → P i j)
    → Found S n P → Found S n Q
found_for S n P Q f (inl one) = inl (record {
  i = one.i;
  d = one.d;
  j = one.j;
  v = one.v;
  due = one.due;
  least = λ i' d' j' v' h due. one.least i' d' j' v'
      (f i' d' j' v' h due) due;
})
found_for S n P Q f (inr none) = inr (λ i d j v h due. none i d j v (f i d j v h due) due)

-- of one id and one invoke id
abbrev Exactly : List ℕ → ℤ → List ℕ → ℤ → Type 0
Exactly k u i j = (i ≡ k) × (j ≡ u)

none_exactly : (S : State) (n : ℕ) (k : List ℕ) (u : ℤ) → ((d : Dialogue) (v : Invocation) → IsDue S n k d u v → ⊥) → NoneOf S n (Exactly k u)
none_exactly S n k u h i d j v e due =
    let P : List ℕ → Type 0 = λ x. IsDue S n x d j v in
    let Q : ℤ → Type 0 = λ x. IsDue S n k d x v in
    h d v (subst Q e.1 (subst P e.0 due))

one_exactly : (S : State) (n : ℕ) (k : List ℕ) (u : ℤ) (d : Dialogue) (v : Invocation) → IsDue S n k d u v → LeastOf S n (Exactly k u)
one_exactly S n k u d v due = record { i = k; d = d; j = u; v = v; due = due; least = λ i' d' j' v' e other. by i' d' j' v' e other }
  where
    same_place : (d' : Dialogue) (v' : Invocation) → IsDue S n k d' u v' → is_gt (triple_cmp v.deadline k u v'.deadline k u) ≡ false
    same_place d' v' other =
        let dialogue_is : d ≡ d' = some_inj d d' _ due.is_open other.is_open in
        let invocation_is : v ≡ v' = some_inj v v' _ due.stands (ap (λ (f : Dialogue). invocation_of u f.invocations) dialogue_is ∙ other.stands) in
        reflexive (is_gt (triple_cmp v.deadline k u v'.deadline k u)) refl (ap (λ (w : Invocation). w.deadline) invocation_is)
      where
        reflexive : (t : Bool) → is_gt (triple_cmp v.deadline k u v'.deadline k u) ≡ t → v.deadline ≡ v'.deadline → t ≡ false
        reflexive false e q = refl
        reflexive true e q =
            let back : is_gt (triple_cmp v'.deadline k u v.deadline k u)
            ≡ false = not_greater _ _ (order_total.antisymm (record { deadline = v.deadline; id = k; invoke = u })
            (record { deadline = v'.deadline; id = k; invoke = u })) e in
            let P : ℕ → Type 0 = λ t. is_gt (triple_cmp v'.deadline k u t k u) ≡ false in
            let R : ℕ → Type 0 = λ t. is_gt (triple_cmp t k u v'.deadline k u) ≡ false in
            absurd (both_ways _ (subst R (sym q) (subst P q back)) e)

    by : (i' : List ℕ) (d' : Dialogue) (j' : ℤ) (v' : Invocation) → Exactly k u i' j' → IsDue S n i' d' j' v'
        → is_gt (triple_cmp v.deadline k u v'.deadline i' j') ≡ false
    by i' d' j' v' e other =
        let P : List ℕ → Type 0 = λ x. IsDue S n x d' j' v' in
        let Q : ℤ → Type 0 = λ x. IsDue S n k d' x v' in
        let here : is_gt (triple_cmp v.deadline k u v'.deadline k u) ≡ false = same_place d' v' (subst Q e.1 (subst P e.0 other)) in
        let R : List ℕ → Type 0 = λ x. is_gt (triple_cmp v.deadline k u v'.deadline x u) ≡ false in
        let T : ℤ → Type 0 = λ x. is_gt (triple_cmp v.deadline k u v'.deadline i' x) ≡ false in
        subst T (sym e.1) (subst R (sym e.0) here)

found_exactly : (S : State) (n : ℕ) (k : List ℕ) (d : Dialogue) (u : ℤ) → S.dialogues k ≡ Some d → shard_of_id k ≡ n → Found S n (Exactly k u)
found_exactly S n k d u there shard_is = by (invocation_of u d.invocations) refl
  where
    by : (o : Option Invocation) → invocation_of u d.invocations ≡ o → Found S n (Exactly k u)
    by None e = inr (none_exactly S n k u (λ d' v' due. none_some v' _
        (ap (λ (f : Dialogue). invocation_of u f.invocations) (some_inj d' d _ due.is_open there) ∙ e) due.stands))
    by (Some v) e = at (cases_lt (S.clocks n) v.deadline)
      where
        at : (S.clocks n < v.deadline) ⊎ (v.deadline ≤ S.clocks n) → Found S n (Exactly k u)
        at (inr h) = inl (one_exactly S n k u d v (record { of_shard = shard_is; is_open = there; stands = e; due = h }))
        at (inl h) = inr (none_exactly S n k u (λ d' v' due. late d' v' due))
          where
            late : (d' : Dialogue) (v' : Invocation) → IsDue S n k d' u v' → ⊥
            late d' v' due =
                let v_is : v ≡ v' = some_inj v v' _ e (ap (λ (f : Dialogue). invocation_of u f.invocations) (some_inj d d' _ there due.is_open) ∙ due.stands) in
                let soon : v'.deadline ≤ S.clocks n = due.due in
                let deadline_is : v.deadline ≡ v'.deadline = ap (λ (w : Invocation). w.deadline) v_is in
                absurd (omega arith)

-- of one dialogue, by the ids of some of its invocations
abbrev HasId : List Invocation → ℤ → Type 0
HasId [] j = ⊥
HasId (v ∷ vs) j = (j ≡ v.id) ⊎ HasId vs j

found_among : (S : State) (n : ℕ) (k : List ℕ) (d : Dialogue) (vs : List Invocation) → S.dialogues k ≡ Some d → shard_of_id k ≡ n
    → Found S n (λ i j. (i ≡ k) × HasId vs j)
found_among S n k d [] there shard_is = inr (λ i d' j v h due. h.1)
found_among S n k d (v ∷ vs) there shard_is =
    found_for S n (OneOf (Exactly k v.id) (λ i j. (i ≡ k) × HasId vs j)) (λ i j. (i ≡ k) × HasId (v ∷ vs) j) (λ i d' j w h due. by i j h.0 h.1)
    (found_both S n (Exactly k v.id) (λ i j. (i ≡ k) × HasId vs j) (found_exactly S n k d v.id there shard_is) (found_among S n k d vs there shard_is))
  where
    by : (i : List ℕ) (j : ℤ) → i ≡ k → (j ≡ v.id) ⊎ HasId vs j → OneOf (Exactly k v.id) (λ i j. (i ≡ k) × HasId vs j) i j
    by i j e (inl q) = inl (e, q)
    by i j e (inr q) = inr (e, q)

has_id : (j : ℤ) (vs : List Invocation) (v : Invocation) → invocation_of j vs ≡ Some v → HasId vs j
has_id j [] v e = absurd (none_some v None refl e)
has_id j (u ∷ vs) v e = by (int_eq u.id j) refl e (has_id j vs v)
  where
    by : (b : Bool) → int_eq u.id j ≡ b → cond b (Some u) (invocation_of j vs) ≡ Some v → (invocation_of j vs ≡ Some v → HasId vs j) → (j ≡ u.id) ⊎ HasId vs j
    by true q f next = inl (sym (int_is u.id j q))
    by false q f next = inr (next f)

-- of one id
found_at : (S : State) (n : ℕ) (k : List ℕ) → Found S n (λ i j. i ≡ k)
found_at S n k = go (cases_eq (shard_of_id k) n) (S.dialogues k) refl
  where
    go : (shard_of_id k ≡ n) ⊎ (shard_of_id k ≡ n → ⊥) → (o : Option Dialogue) → S.dialogues k ≡ o → Found S n (λ i j. i ≡ k)
    go (inr ne) o e = inr (λ i d j v h due. ne (ap shard_of_id (sym h) ∙ due.of_shard))
    go (inl q) None e = inr (λ i d j v h due. none_some d _ (ap S.dialogues h ∙ e) due.is_open)
    go (inl q) (Some d) e = found_for S n (λ i j. (i ≡ k) × HasId d.invocations j) (λ i j. i ≡ k)
        (λ i d' j v h due. (
          h,
          let d_is : d' ≡ d = some_inj d' d _ due.is_open (ap S.dialogues h ∙ e) in has_id j d.invocations v
              (ap (λ (f : Dialogue). invocation_of j f.invocations) (sym d_is) ∙ due.stands),
        ))
        (found_among S n k d d.invocations e q)

found_in : (S : State) (n : ℕ) (js : List (List ℕ)) → Found S n (λ i j. IsIn i js)
found_in S n [] = inr (λ i d j v h due. h)
found_in S n (k ∷ js) = found_both S n (λ i j. i ≡ k) (λ i j. IsIn i js) (found_at S n k) (found_in S n js)

-- the turn of an expiry
expiry_turns : (S : State) (n : ℕ) → Sound S → (turn : Turn) × Expiry S n turn
expiry_turns S n sound = go (found_in S n all_ids)
  where
    go : Found S n (λ i j. IsIn i all_ids) → (turn : Turn) × Expiry S n turn
    go (inl one) = (
      Expires one.i one.d one.j one.v.was,
      OneDue one.i one.d one.j one.v one.due
          (λ i' d' j' v' due. one.least i' d' j' v' (open_in_all S i' sound (λ z. none_some d' _ z due.is_open)) due) refl,
    )
    go (inr none) = (Dismissed [], NoneDue (λ i d j v due. none i d j v (open_in_all S i sound (λ z. none_some d _ z due.is_open)) due) refl)

event_turns : (S : State) (e : Event) → Sound S → (turn : Turn) × TurnsTo S e turn
event_turns S (Frame from v) sound = (turn_of_verdict S.dialogues from v, refl)
event_turns S (Clock n now) sound = (Ticks n now, refl)
event_turns S (Expire n) sound = expiry_turns S n sound
event_turns S (Operator imsi change) sound = (Changes imsi change, refl)

-- the step

abbrev Goes : State → Event → Type 0
Goes S e = ((T : State) × (a : Answer) × Step S e T a) ⊎ HasNoRoom S e

taken_step : (S : State) (e : Event) (turn : Turn) (new : List ℕ) → TurnsTo S e turn
    → (IsTrue (is_some (outcome_in S (route S.directory e) turn new).opens) → IsNewId S (route S.directory e) new)
    → (WouldOverflow S (route S.directory e) turn (outcome_in S (route S.directory e) turn new) → ⊥) → Goes S e
taken_step S e turn new turns opens room = inl (
  ticked turn (moved S (concern S.directory turn) (named turn) new (outcome_in S (route S.directory e) turn new)),
  record {
    id = taken new (outcome_in S (route S.directory e) turn new).opens;
    subject = subject_of S turn;
    sent =
        (outcome_in S (route S.directory e) turn new).sent;
  },
  Taken turn new turns (record { opens = opens; room = room; state = refl; id = refl; subject = refl; sent = refl }),
)

change_event : (S : State) (e : Event) (turn : Turn) (imsi : List ℕ) (change : Change) → View S e turn → turn ≡ Changes imsi change → e ≡ Operator imsi change
change_event S e _ imsi change (Idly out quiet) q = cc
change_event S e _ imsi change (Ticking m now is) q = cc
change_event S e _ imsi change (Beginning from r p cs is) q = cc
change_event S e _ imsi change (Continuing i d t ks there active v nm rt) q = cc
change_event S e _ imsi change (Closing i d there v nm rt) q = cc
change_event S e _ imsi change (Expiring m i d j v is due least) q = cc
change_event S e _ imsi change (Changing y k is) q = cc

-- in a full shard, in addition to the open ones
overflows : (S : State) (e : Event) (turn : Turn) (new : List ℕ) → View S e turn → TurnsTo S e turn
    → WouldOverflow S (route S.directory e) turn (outcome_in S (route S.directory e) turn new) → (x : List ℕ) → concern S.directory turn ≡ Some x → Goes S e
overflows S e turn new v turns w x c = by turn refl
  where
    away : (from r : List ℕ) (p : Option (List ℕ)) (cs : List Component) → turn ≡ Begins from r p cs → Goes S e
    away from r p cs is = inl (
      S,
      record { id = None; subject = subject_of S turn; sent = send from (SentAbort r (Cause RESOURCE_LIMITATION)) },
      Full turn new turns (record {
        from = from;
        origin = r;
        name = p;
        components = cs;
        begins = is;
        overflows = w;
        state = refl;
        id = refl;
        subject = refl;
        sent = refl;
      }),
    )

    refused : (imsi : List ℕ) (change : Change) → turn ≡ Changes imsi change → e ≡ Operator imsi change → HasNoRoom S e
    refused imsi change is event_is =
        let P : Event → Type 0 = λ f. WouldOverflow S (route S.directory f) turn (outcome_in S (route S.directory f) turn new) in
        let Q : Turn → Type 0 = λ t. WouldOverflow S (shard_of imsi) t (outcome_in S (shard_of imsi) t new) in
        let R : Event → Type 0 = λ f. HasNoRoom S f in
        subst R (sym event_is) (new, subst Q is (subst P event_is w))

    by : (t : Turn) → turn ≡ t → Goes S e
    by (Dismissed out) is = absurd (none_some x _ (ap (λ t. concern S.directory t) is) c)
    by (Ticks n now) is = absurd (none_some x _ (ap (λ t. concern S.directory t) is) c)
    by (Begins from r p cs) is = away from r p cs is
    by (Continues i d cs) is = absurd (none_some i _ w.beside (ap (λ t. named t) is))
    by (Closes i d) is = absurd (none_some i _ w.beside (ap (λ t. named t) is))
    by (Expires i d j was) is = absurd (none_some i _ w.beside (ap (λ t. named t) is))
    by (Changes imsi change) is = inr (refused imsi change is (change_event S e turn imsi change v is))

pub each_event_goes : (S : State) (e : Event) → Sound S → Goes S e
each_event_goes S e sound = go (event_turns S e sound)
  where
    go : (turn : Turn) × TurnsTo S e turn → Goes S e
    go (turn, turns) = by (concern S.directory turn) refl
      where
        by : (c : Option (List ℕ)) → concern S.directory turn ≡ c → Goes S e
        by None c =
            let bare : Bare (outcome (local_of_nobody S (route S.directory e)) turn []) = bare_came S e turn (route S.directory e) [] (view S e turn turns) c in
            let shut : IsTrue (is_some (outcome_in S (route S.directory e) turn []).opens)
            → ⊥ = (λ t. both_ways false refl (sym (ap (λ o. is_some (outcome (seen S (route S.directory e) o) turn []).opens) c
            ∙ ap (λ o. is_some o) bare.opens) ∙ t)) in
            taken_step S e turn [] turns (λ t. absurd (shut t)) (λ w. shut w.opens)
        by (Some x) c =
            let f : Facts S e turn x [] (route S.directory e) = facts S e turn x [] (route S.directory e) sound (view S e turn turns) c in
            let small : route S.directory e < 16 = subst (λ (m : ℕ). m < 16) (sym f.here) (shard_small x) in
            let new : (i : List ℕ) × IsNewId S (route S.directory e) i = free_id S (route S.directory e) sound small in
            with_id x c new.0 new.1 (full_or_not S (route S.directory e) sound) (is_some (outcome_in S (route S.directory e) turn new.0).opens) refl
            (named turn) refl
          where
            with_id : (x : List ℕ) → concern S.directory turn ≡ Some x → (new : List ℕ) → IsNewId S (route S.directory e) new
                → IsFull S (route S.directory e) ⊎ (IsFull S (route S.directory e) → ⊥)
                → (b : Bool) → is_some (outcome_in S (route S.directory e) turn new).opens ≡ b → (o : Option (List ℕ)) → named turn ≡ o → Goes S e
            with_id x c new id (inr room) b q o z = taken_step S e turn new turns (λ t. id) (λ w. room w.full)
            with_id x c new id (inl full) false q o z = taken_step S e turn new turns (λ t. id) (λ w. both_ways _ q w.opens)
            with_id x c new id (inl full) true q (Some i) z = taken_step S e turn new turns (λ t. id) (λ w. none_some i _ w.beside z)
            with_id x c new id (inl full) true q None z = overflows S e turn new (view S e turn turns) turns (record { opens = q; beside = z; full = full }) x c
