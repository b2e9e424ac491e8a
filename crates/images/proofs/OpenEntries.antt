-- The keys that a table of open dialogues lists are those of its entries, and each finds its own dialogue.
use Rattle.std.proofs.Common.{◌≡◌, ℕ, zero, suc, ◌+◌, ◌<◌, Bool, true, false, cond, List, [], ◌∷◌, ◌++◌, length, take, get_or, T, refl, sym, ap, ◌∙◌, subst, arith}
use Rattle.std.specs.Prelude.{Some, None, option_map, slice_get}
use Rattle.std.specs.Cmp.{tied_itself}
use Rattle.std.specs.Cmp.Lexicographic.{nat_list_cmp_total}
use Rattle.std.specs.FinMap as finite
use Rattle.std.specs.FinMap.Entries.{below_all, find, is_sorted}
use Rattle.std.specs.Ordering.{eq_by_cmp, is_eq, is_lt, ordering_reverse}
use Rattle.std.specs.declared.cmp.Ordering.{Ordering}
use Rattle.std.specs.declared.cmp.Ordering.TheVariants.{Less, Equal, Greater}
use Rattle.std.proofs.lemmas.Bool.{and_parts}
use Rattle.std.proofs.lemmas.List.{length-map, take_more}
use Rattle.std.proofs.lemmas.Option.{get_or_from_slice_get, none-some, same_Some, slice_get-map}
use Rattle.hlr_types.specs.Orders.{octets_cmp}
use Rattle.machine.specs.State.{Dialogue}
use Rattle.dialogues.specs.Dialogues.{OpenDialogues, dialogues_of}

is_true : (b : Bool) → T b → b ≡ true
is_true true h = refl
is_true false h = absurd h

less_is : (o : Ordering) → is_lt o ≡ true → o ≡ Less
less_is Less e = refl
less_is Equal e = absurd cc
less_is Greater e = absurd cc

-- a key that is above another does not tie with it
above : (a b : List ℕ) → is_lt (octets_cmp a b) ≡ true → eq_by_cmp octets_cmp b a ≡ false
above a b lt = ap is_eq (nat_list_cmp_total.antisymm b a ∙ ap ordering_reverse (less_is _ lt))

own : (a : List ℕ) → eq_by_cmp octets_cmp a a ≡ true
own a = ap is_eq (tied_itself nat_list_cmp_total a)

at_cond : {X : Type 0} (b : Bool) (x y : X) → b ≡ true → cond b x y ≡ x
at_cond true x y e = refl
at_cond false x y e = absurd cc

off_cond : {X : Type 0} (b : Bool) (x y : X) → b ≡ false → cond b x y ≡ y
off_cond true x y e = absurd cc
off_cond false x y e = refl

-- the keys after the first are above it
below_at : {X : Type 0} (a : List ℕ) (es : List (List ℕ × X)) (i : ℕ) (e : List ℕ × X) → below_all octets_cmp a es ≡ true
    → slice_get es i ≡ Some e → is_lt (octets_cmp a e.0) ≡ true
below_at a [] i e h at = absurd cc
below_at a (f ∷ es) zero e h at =
    let same : f ≡ e = cc in
    ap (λ (g : List ℕ × _). is_lt (octets_cmp a g.0)) (sym same) ∙ (and_parts _ _ h).0
below_at a (f ∷ es) (suc i) e h at = below_at a es i e (and_parts _ _ h).1 at

-- if the keys ascend, each finds its own value
finds : {X : Type 0} (es : List (List ℕ × X)) (i : ℕ) (e : List ℕ × X) → is_sorted octets_cmp es ≡ true → slice_get es i ≡ Some e
    → find octets_cmp e.0 es ≡ Some e.1
finds [] i e h at = absurd cc
finds (f ∷ es) zero e h at =
    let same : f ≡ e = cc in
    subst (λ (g : List ℕ × _). find octets_cmp g.0 (f ∷ es) ≡ Some g.1) same (at_cond _ _ _ (own f.0))
finds (f ∷ es) (suc i) e h at =
    off_cond _ _ _ (above f.0 e.0 (below_at f.0 es i e (and_parts _ _ h).0 at)) ∙ finds es i e (and_parts _ _ h).1 at

-- ---- the open dialogues of a shard, one more

dialogue_there : (d : OpenDialogues) (i : ℕ) (e : List ℕ × Dialogue) → slice_get (finite.entries d.open_ones) i ≡ Some e
    → dialogues_of d e.0 ≡ Some e.1
unfolding dialogues_of
dialogue_there d i e at =
    finite.get-entries d.open_ones e.0 ∙ finds (finite.entries d.open_ones) i e (is_true _ (finite.entries_sorted d.open_ones)) at

entry_there : {X : Type 0} (es : List (List ℕ × X)) (i : ℕ) → i < length es → (e : List ℕ × X) × (slice_get es i ≡ Some e)
entry_there [] i lt = absurd (omega (arith, lt))
entry_there (e ∷ es) zero lt = (e, refl)
entry_there (e ∷ es) (suc i) lt = entry_there es i (omega (arith, lt))

-- the key that a table returns next is that of its next entry
module _ (d : OpenDialogues) (i : ℕ) (id : List ℕ) (lt : i < length (finite.keys d.open_ones))
    (is : id ≡ get_or (finite.keys d.open_ones) i id) where
  next_entry : (e : List ℕ × Dialogue) × (slice_get (finite.entries d.open_ones) i ≡ Some e)
  next_entry = let count = length-map (finite.entries d.open_ones) (λ e. e.0) in entry_there (finite.entries d.open_ones) i
      (omega (arith, lt, count))

  next_key : id ≡ next_entry.0.0
  next_key =
      is
      ∙ get_or_from_slice_get (finite.keys d.open_ones) i next_entry.0.0 id
      (slice_get-map (λ e. e.0) (finite.entries d.open_ones) i ∙ ap (option_map (λ e. e.0)) next_entry.1)

  -- the dialogue that is open there
  pub next_found : (x : Dialogue) × (dialogues_of d id ≡ Some x)
  next_found = (next_entry.0.1, ap (dialogues_of d) next_key ∙ dialogue_there d i next_entry.0 next_entry.1)

  pub is_open : dialogues_of d id ≡ None → ⊥
  is_open none = none-some next_found.0 (sym none ∙ next_found.1)

  pub next_opened : (found : Dialogue) → Some found ≡ dialogues_of d id
      → take (i + 1) (finite.entries d.open_ones) ≡ take i (finite.entries d.open_ones) ++ (id, found) ∷ []
  next_opened found there =
      let e : List ℕ × Dialogue = next_entry.0 in
      let value : found ≡ e.1 = same_Some found e.1 (there ∙ ap (dialogues_of d) next_key ∙ dialogue_there d i e next_entry.1) in
      let whole : e ≡ (id, found) = λ k. ((sym next_key) k, (sym value) k) in
      let count = length-map (finite.entries d.open_ones) (λ e. e.0) in
      take_more (finite.entries d.open_ones) i e (omega (arith, lt, count))
      ∙ ap (λ (x : List ℕ × Dialogue). take i (finite.entries d.open_ones) ++ x ∷ [])
      (get_or_from_slice_get (finite.entries d.open_ones) i e e next_entry.1 ∙ whole)
