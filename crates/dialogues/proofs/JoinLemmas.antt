-- The joined tables: what is open under an id.
use Rattle.std.proofs.Common.{◌≡◌, ◌≢◌, ℕ, List, [], ◌∷◌, true, false, cond, ◌&&◌, Option, Some, None, length, map, refl, sym, ap, ◌∙◌, subst, T}
use Rattle.std.specs.Option.{option_map}
use Rattle.std.specs.Ordering.{eq_by_cmp, is_lt}
use Rattle.std.specs.FinMap as finite
use Rattle.std.specs.FinMap.Entries.{below_all}
use Rattle.std.proofs.lemmas.List.{length-map}
use Rattle.hlr_types.specs.Orders.{octets_cmp}
use Rattle.hlr_types.proofs.OrderLemmas.{same_octets}
use Rattle.machine.specs.State.{Transaction}
use Rattle.tsl.specs.Transactions.{OpenTransactions, at}
use Rattle.csl.specs.Tables.{InvocationLists, invocations_at}
use Rattle.dialogues.specs.declared.talk.Talk.{Talk}
use Rattle.dialogues.specs.Dialogues.{OpenDialogues, dialogues_of, invocations_in}
use Rattle.dialogues.specs.Joined.{talk_of, dialogue_from, dialogue_at, remade, joined, AreTied}

-- ---- a map with each value made anew
module _ {X Y : Type 0} (f : List ℕ → X → Y) where
  abbrev entries_anew : List (List ℕ × X) → List (List ℕ × Y)
  entries_anew es = map (λ (e : List ℕ × X). (e.0, f e.0 e.1)) es

  below_anew : (x : List ℕ) (es : List (List ℕ × X)) → below_all octets_cmp x (entries_anew es) ≡ below_all octets_cmp x es
  below_anew x [] = refl
  below_anew x (e ∷ es) = ap (λ b. is_lt (octets_cmp x e.0) && b) (below_anew x es)

  sorted_anew : (es : List (List ℕ × X)) → finite.is_sorted octets_cmp (entries_anew es) ≡ finite.is_sorted octets_cmp es
  sorted_anew [] = refl
  sorted_anew (e ∷ es) = λ i. below_anew e.0 es i && sorted_anew es i

  find_anew : (q : List ℕ) (es : List (List ℕ × X)) → finite.find octets_cmp q (entries_anew es) ≡ option_map (f q) (finite.find octets_cmp q es)
  find_anew q [] = refl
  find_anew q (e ∷ es) =
      elim (eq_by_cmp octets_cmp q e.0) as (λ b. eq_by_cmp octets_cmp q e.0 ≡ b
      → cond b (Some (f e.0 e.1)) (finite.find octets_cmp q (entries_anew es)) ≡ option_map (f q) (cond b (Some e.1) (finite.find octets_cmp q es))) [
        | true ↦ λ same. ap (λ (k : List ℕ). Some (f k e.1)) (sym (same_octets q e.0 same))
        | false ↦ λ _. find_anew q es
      ] refl

  keys_anew : (es : List (List ℕ × X)) → map (λ (e : List ℕ × Y). e.0) (entries_anew es) ≡ map (λ (e : List ℕ × X). e.0) es
  keys_anew [] = refl
  keys_anew (e ∷ es) = ap (λ ks. e.0 ∷ ks) (keys_anew es)

  module _ (m : finite.FinMap octets_cmp X) where
    rises : T (finite.is_sorted octets_cmp (entries_anew (finite.entries m)))
    rises = subst T (sym (sorted_anew (finite.entries m))) (finite.entries_sorted m)

    pub entries-remade : finite.entries (remade f m) ≡ entries_anew (finite.entries m)
    entries-remade = finite.entries-from_sorted octets_cmp (entries_anew (finite.entries m)) rises

    pub get-remade : (q : List ℕ) → finite.get (remade f m) q ≡ option_map (f q) (finite.get m q)
    get-remade q =
        finite.get-from_sorted octets_cmp (entries_anew (finite.entries m)) q rises
        ∙ find_anew q (finite.entries m)
        ∙ ap (option_map (f q)) (sym (finite.get-entries m q))

    pub keys-remade : finite.keys (remade f m) ≡ finite.keys m
    keys-remade = ap (map (λ (e : List ℕ × Y). e.0)) entries-remade ∙ keys_anew (finite.entries m)

    pub len-remade : finite.len (remade f m) ≡ finite.len m
    len-remade =
        finite.len-entries (remade f m) ∙ ap length entries-remade ∙ length-map (finite.entries m) (λ (e : List ℕ × X). (e.0, f e.0 e.1))
        ∙ sym (finite.len-entries m)

-- ---- what is open
module _ (t : OpenTransactions) (lists : InvocationLists) (talks : List Talk) where
  pub dialogues-joined : (q : List ℕ) → dialogues_of (joined t lists talks) q ≡ option_map (dialogue_at lists talks q) (at t q)
  unfolding dialogues_of
  dialogues-joined q = get-remade (dialogue_at lists talks) t.open_ones q

  pub transaction_open : (id : List ℕ) → dialogues_of (joined t lists talks) id ≢ None → at t id ≢ None
  transaction_open id some none = some (dialogues-joined id ∙ ap (option_map (dialogue_at lists talks id)) none)

  pub invocations-joined : AreTied t lists talks → (q : List ℕ) → invocations_in (dialogues_of (joined t lists talks) q) ≡ invocations_at lists q
  invocations-joined tied q = ap invocations_in (dialogues-joined q) ∙ by (at t q) (tied.only_open q)
    where
      by : (o : Option Transaction) → (o ≡ None → invocations_at lists q ≡ [])
          → invocations_in (option_map (dialogue_at lists talks q) o) ≡ invocations_at lists q
      by None none = sym (none refl)
      by (Some s) none = refl

-- ---- what is read at an id
module _ (t : OpenTransactions) (lists : InvocationLists) (talks : List Talk) (d : OpenDialogues) (id : List ℕ) (view : joined t lists talks ≡ d) where
  pub nothing_got : at t id ≡ None → None ≡ dialogues_of d id
  nothing_got none =
      sym (dialogues-joined t lists talks id ∙ ap (option_map (dialogue_at lists talks id)) none) ∙ ap (λ (e : OpenDialogues). dialogues_of e id) view

  pub invocations_got : AreTied t lists talks → invocations_at lists id ≡ invocations_in (dialogues_of d id)
  invocations_got tied = sym (invocations-joined t lists talks tied id) ∙ ap (λ (e : OpenDialogues). invocations_in (dialogues_of e id)) view

  pub dialogue_got : (s : Transaction) (talk : Talk) → AreTied t lists talks → at t id ≡ Some s → talk ≡ talk_of talks id
      → Some (dialogue_from talk (invocations_in (dialogues_of d id)) s) ≡ dialogues_of d id
  dialogue_got s talk tied there read =
      let list = sym (invocations_got tied) in
      (λ i. Some (dialogue_from (read i) (list i) s))
      ∙ sym (dialogues-joined t lists talks id ∙ ap (option_map (dialogue_at lists talks id)) there)
      ∙ ap (λ (e : OpenDialogues). dialogues_of e id) view
