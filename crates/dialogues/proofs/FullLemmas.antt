-- A full shard, by the number of open transactions.
use Rattle.std.proofs.Common.{◌≡◌, ◌≢◌, ◌<◌, ◌↔◌, inl, inr, ℕ, List, [], ◌∷◌, Bool, true, false, not, ◌&&◌, ◌||◌, Option, Some, None, length, map, refl, sym, ap, ◌∙◌, subst, arith, T, IsTrue}
use Rattle.std.specs.List.{list_any}
use Rattle.std.specs.Option.{option_map, is_some, IsNone}
use Rattle.std.specs.Ordering.{eq_by_cmp, is_lt}
use Rattle.std.specs.Cmp.{tied_itself}
use Rattle.std.specs.FinMap as finite
use Rattle.std.specs.FinMap.Entries.{below_all}
use Rattle.std.proofs.lemmas.Bool.{cases_eq}
use Rattle.std.proofs.lemmas.List.{length-map}
use Rattle.hlr_types.specs.Orders.{octets_cmp}
use Rattle.hlr_types.proofs.OrderLemmas.{octets_total, same_octets, eq_octets}
use Rattle.machine.specs.Keys.{AreDifferent, Every, IsIn, IsNotIn, shard_of_id}
use Rattle.machine.specs.State.{IsFull, State, Transaction}
use Rattle.machine_laws.proofs.Counting.{not_full}
use Rattle.tsl.specs.Transactions.{OpenTransactions, at, count}
use Rattle.csl.specs.Tables.{InvocationLists}
use Rattle.dialogues.specs.declared.talk.Talk.{Talk}
use Rattle.dialogues.specs.Dialogues.{OpenDialogues, dialogues_of}
use Rattle.dialogues.specs.Joined.{dialogue_at, joined, AreTied}
use Rattle.dialogues.proofs.JoinLemmas.{dialogues-joined}
use Rattle.dialogues.proofs.ChangeLemmas.{is_there}
use Rattle.dialogues.proofs.NewIdLemmas.{machine_id}

-- ---- the keys of a finite map are different
T-first : (a b : Bool) → T (a && b) → T a
T-first true b h = tt
T-first false b h = absurd h

T-second : (a b : Bool) → T (a && b) → T b
T-second true b h = h
T-second false b h = absurd h

not_less : (x y : List ℕ) → x ≡ y → T (is_lt (octets_cmp x y)) → ⊥
not_less x y e h = subst T (ap (λ z. is_lt (octets_cmp x z)) (sym e) ∙ ap is_lt (tied_itself octets_total x)) h

module _ {X : Type 0} where
  abbrev keys_in : List (List ℕ × X) → List (List ℕ)
  keys_in es = map (λ (e : List ℕ × X). e.0) es

  apart_from : (x : List ℕ) (es : List (List ℕ × X)) → T (below_all octets_cmp x es) → IsNotIn x (keys_in es)
  apart_from x [] h = tt
  apart_from x (e ∷ es) h = (
    (λ s. not_less x e.0 s (T-first (is_lt (octets_cmp x e.0)) (below_all octets_cmp x es) h)),
    apart_from x es
        (T-second (is_lt (octets_cmp x e.0)) (below_all octets_cmp x es) h),
  )

  different : (es : List (List ℕ × X)) → T (finite.is_sorted octets_cmp es) → AreDifferent (keys_in es)
  different [] h = tt
  different (e ∷ es) h = (
    apart_from e.0 es (T-first (below_all octets_cmp e.0 es) (finite.is_sorted octets_cmp es) h),
    different es
        (T-second (below_all octets_cmp e.0 es) (finite.is_sorted octets_cmp es) h),
  )

-- ---- and those at which something stands
or-true : (a b : Bool) → b ≡ true → (a || b) ≡ true
or-true true b e = refl
or-true false b e = e

in_keys : (q : List ℕ) (ks : List (List ℕ)) → list_any (eq_by_cmp octets_cmp q) ks ≡ true → IsIn q ks
in_keys q [] h = cc
in_keys q (k ∷ ks) h =
    elim (eq_by_cmp octets_cmp q k) as (λ b. eq_by_cmp octets_cmp q k ≡ b → (b || list_any (eq_by_cmp octets_cmp q) ks) ≡ true → IsIn q (k ∷ ks)) [
      | true ↦ λ e _. inl (same_octets q k e)
      | false ↦ λ _ rest. inr (in_keys q ks rest)
    ] refl h

key_in : (q : List ℕ) (ks : List (List ℕ)) → IsIn q ks → list_any (eq_by_cmp octets_cmp q) ks ≡ true
key_in q [] h = absurd h
key_in q (k ∷ ks) (inl e) = ap (λ b. b || list_any (eq_by_cmp octets_cmp q) ks) (eq_octets q k e)
key_in q (k ∷ ks) (inr h) = or-true (eq_by_cmp octets_cmp q k) (list_any (eq_by_cmp octets_cmp q) ks) (key_in q ks h)

every_in : (P : List ℕ → Type 0) (ks : List (List ℕ)) → ((q : List ℕ) → IsIn q ks → P q) → Every P ks
every_in P [] h = tt
every_in P (k ∷ ks) h = (h k (inl refl), every_in P ks (λ q there. h q (inr there)))

-- ---- a full shard
module _ (t : OpenTransactions) (lists : InvocationLists) (talks : List Talk) (tied : AreTied t lists talks) (S : State)
    (is : S.dialogues ≡ dialogues_of (joined t lists talks)) where
  ids : List (List ℕ)
  ids = finite.keys t.open_ones

  how_many : length ids ≡ count t
  unfolding ids
  how_many = length-map (finite.entries t.open_ones) (λ (e : List ℕ × Transaction). e.0) ∙ sym (finite.len-entries t.open_ones)

  at_id : (q : List ℕ) → S.dialogues q ≡ option_map (dialogue_at lists talks q) (at t q)
  at_id q = ap (λ D. D q) is ∙ dialogues-joined t lists talks q

  listed : (q : List ℕ) → S.dialogues q ≢ None → IsIn q ids
  unfolding ids
  listed q some =
      in_keys q (finite.keys t.open_ones)
      (sym (finite.contains_key-keys t.open_ones q) ∙ is_there t q (λ none. some (at_id q ∙ ap (option_map (dialogue_at lists talks q)) none)))

  stands : (q : List ℕ) → IsIn q ids → at t q ≢ None
  unfolding ids
  stands q there none =
      let some : is_some (at t q) ≡ true = finite.contains_key-keys t.open_ones q ∙ key_in q (finite.keys t.open_ones) there in
      let gone : is_some (at t q) ≡ false = ap is_some none in
      cc

  open_there : (q : List ℕ) → at t q ≢ None → S.dialogues q ≢ None
  open_there q some none = some (by (at t q) (sym (at_id q) ∙ none))
    where
      by : (o : Option Transaction) → option_map (dialogue_at lists talks q) o ≡ None → o ≡ None
      by None e = refl
      by (Some s) e = cc

  full : count t ≡ 4096 → IsFull S t.shard
  unfolding ids
  full e = (
    ids,
    record {
      different = different (finite.entries t.open_ones) (finite.entries_sorted t.open_ones);
      open_ones = every_in (λ i. (shard_of_id i ≡ t.shard) × (S.dialogues i ≢ None)) ids (λ q there.
          let some = stands q there in
          ((machine_id t.shard q (tied.of_shard q some)).shard, open_there q some));
    },
    how_many ∙ e,
  )

  full_only : IsFull S t.shard → count t ≡ 4096
  full_only is_full = elim (cases_eq (count t) 4096) [
    | inl e ↦ e
    | inr other ↦
        let few : length ids < 4096 = omega (arith, how_many, tied.few) in
        absurd (not_full S t.shard ids (λ q _ some. listed q some) few is_full)
  ]

pub full_iff : (t : OpenTransactions) (lists : InvocationLists) (talks : List Talk) (d : OpenDialogues) (view : joined t lists talks ≡ d)
    (tied : AreTied t lists talks) (P : Type 0) → P ↔ (count t ≡ 4096)
    → (S : State) → S.dialogues ≡ dialogues_of d → P ↔ IsFull S d.shard
full_iff t lists talks d view tied P told =
    subst (λ (e : OpenDialogues). (S : State) → S.dialogues ≡ dialogues_of e → P ↔ IsFull S e.shard) view
    (λ S is. ((λ p. full t lists talks tied S is (told.0 p)), (λ f. told.1 (full_only t lists talks tied S is f))))

-- the result of `is_none`
pub told_none : {X : Type 0} (o : Option X) (b : Bool) (P : Type 0) → is_some o ≡ not b → IsNone o ↔ P → IsTrue b ↔ P
told_none None true P e none = ((λ _. none.0 refl), (λ _. refl))
told_none None false P e none = absurd cc
told_none (Some x) true P e none = absurd cc
told_none (Some x) false P e none = ((λ (t : IsTrue false). absurd cc), (λ p. let gone : IsNone (Some x) = none.1 p in absurd cc))
