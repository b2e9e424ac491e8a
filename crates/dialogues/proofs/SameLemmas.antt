-- Whether the same dialogues are open.
use Rattle.std.proofs.Common.{◌≡◌, ℕ, ℤ, suc, ◌<◌, ◌||◌, Bool, true, false, List, [], ◌∷◌, length, map as each, get_or, refl, sym, ap, ap₂, ◌∙◌, subst, Option, Some, None, arith}
use Rattle.std.specs.Bool.{Decides}
use Rattle.std.specs.List.{list_any}
use Rattle.std.specs.Ordering.{eq_by_cmp}
use Rattle.std.specs.FinMap as map
use Rattle.std.specs.Prelude.{is_some}
use Rattle.hlr_types.specs.Orders.{octets_cmp}
use Rattle.hlr_types.proofs.OrderLemmas.{octets_total, octets_exact, same_octets}
use Rattle.machine.specs.State as machine
use Rattle.csl.specs.declared.was.Was.{Was}
use Rattle.csl.specs.Seen.{was, was_back, told_of}
use Rattle.dialogues.specs.declared.dialogue.Dialogue.{Dialogue}
use Rattle.dialogues.specs.Dialogues.{OpenDialogues, dialogues_of, invocations_in}
use Rattle.dialogues.specs.Seen.{dialogue_with}

-- ---- one dialogue

abbrev back : ℤ × Was × ℕ → machine.Invocation
back t = record { id = t.0; was = was t.1; deadline = t.2 }

was_again : (w : machine.Was) → was (was_back w) ≡ w
was_again machine.OperationSent = refl
was_again machine.WaitForReject = refl

told_again : (vs : List machine.Invocation) → each back (each told_of vs) ≡ vs
told_again [] = refl
told_again (v ∷ vs) = ap₂ ◌∷◌ (ap (λ w. record { id = v.id; was = w; deadline = v.deadline }) (was_again v.was)) (told_again vs)

-- what is open under an id, by what the calls return for it
pub same_open : (o p : Option machine.Dialogue) (d e : Dialogue) (xs ys : List (ℤ × Was × ℕ)) (r : Bool)
    → Some (dialogue_with (invocations_in o) d) ≡ o → Some (dialogue_with (invocations_in p) e) ≡ p → d ≡ e
    → xs ≡ each told_of (invocations_in o) → ys ≡ each told_of (invocations_in p) → Decides r (xs ≡ ys) → Decides r (o ≡ p)
same_open o p d e xs ys r mine theirs same told too decides = (
  (λ h.
      let listed : invocations_in o ≡ invocations_in p =
      sym (told_again (invocations_in o)) ∙ ap (each back) (sym told ∙ decides.0 h ∙ too) ∙ told_again (invocations_in p) in
      sym mine ∙ ap₂ (λ vs (x : Dialogue). Some (dialogue_with vs x)) listed same ∙ theirs),
  λ h. decides.1 (told ∙ ap (λ x. each told_of (invocations_in x)) h ∙ sym too),
)

-- ---- all of them

is_none : {X : Type 0} (o : Option X) → is_some o ≡ false → o ≡ None
is_none None e = refl
is_none (Some x) e = absurd (cc e)

some_tie : (q : List ℕ) (ids : List (List ℕ)) → list_any (eq_by_cmp octets_cmp q) ids ≡ true → (k : ℕ) × (k < length ids) × (get_or ids k [] ≡ q)
some_tie q [] e = absurd (cc e)
some_tie q (id ∷ ids) e =
    elim (eq_by_cmp octets_cmp q id) as (λ b. eq_by_cmp octets_cmp q id ≡ b → (k : ℕ) × (k < length (id ∷ ids)) × (get_or (id ∷ ids) k [] ≡ q)) [
      | true ↦ λ t. (0, omega arith, sym (same_octets q id t))
      | false ↦ λ f. let rest = some_tie q ids (sym (ap (λ b. b || list_any (eq_by_cmp octets_cmp q) ids) f) ∙ e) in
          (suc rest.0, (let low = rest.1 in omega arith), rest.2)
    ] refl

-- maps with the same keys, and the same at each, are equal
all_same : (m n : map.FinMap octets_cmp machine.Dialogue) (ids : List (List ℕ)) → ids ≡ map.keys m → ids ≡ map.keys n
    → ((k : ℕ) → k < length ids → map.get m (get_or ids k []) ≡ map.get n (get_or ids k [])) → m ≡ n
all_same m n ids is are at = map.same_map octets_total octets_exact m n (λ q.
    elim (list_any (eq_by_cmp octets_cmp q) ids) as (λ b. list_any (eq_by_cmp octets_cmp q) ids ≡ b → map.get m q ≡ map.get n q) [
      | true ↦ λ t. let f = some_tie q ids t in subst (λ id. map.get m id ≡ map.get n id) f.2 (at f.0 f.1)
      | false ↦ λ f.
          let nothing : (o : map.FinMap octets_cmp machine.Dialogue) → ids ≡ map.keys o → map.get o q ≡ None = λ o same.
          is_none (map.get o q) (map.contains_key-keys o q ∙ ap (list_any (eq_by_cmp octets_cmp q)) (sym same) ∙ f) in
          nothing m is ∙ sym (nothing n are)
    ] refl)

pub same_dialogues : (a b : OpenDialogues) (ids others : List (List ℕ)) (r : Bool) → a.shard ≡ b.shard → a.supply ≡ b.supply
    → ids ≡ map.keys a.open_ones → others ≡ map.keys b.open_ones → ids ≡ others
    → Decides r ((k : ℕ) → k < length ids → dialogues_of a (get_or ids k []) ≡ dialogues_of b (get_or ids k [])) → Decides r (a ≡ b)
unfolding dialogues_of
same_dialogues a b ids others r shard supply mine theirs same decides = (
  (λ h.
      let open_ones = all_same a.open_ones b.open_ones ids mine (same ∙ theirs) (decides.0 h) in
      λ i. record { shard = shard i; supply = supply i; open_ones = open_ones i }),
  λ h. decides.1 (λ k low. ap (λ (d : OpenDialogues). dialogues_of d (get_or ids k [])) h),
)
