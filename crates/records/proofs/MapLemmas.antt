-- A tree map by digits, seen as the finite map of its entries.
use Rattle.std.proofs.Common.{◌≡◌, ℕ, Bool, true, false, cond, List, [], ◌∷◌, Option, Some, None, refl, sym, ap, ◌∙◌}
use Rattle.std.specs.Ordering.{is_eq, eq_by_cmp}
use Rattle.std.specs.Cmp.{IsTotalOrder, Equal-is, tied_itself, eq_by_cmp_equiv}
use Rattle.std.specs.Cmp.Lexicographic.{nat_list_cmp_total}
use Rattle.std.specs.Map.{lookup, keys_of, values_of}
use Rattle.std.specs.List.Sorted.{IsStrictlySortedBy}
use Rattle.std.specs.BTreeMap.{is_at}
use Rattle.std.specs.FinMap as map
use Rattle.std.specs.FinMap.{IsAntisymmetric, slice_cmp-IsAntisymmetric, nat_cmp-IsAntisymmetric}
use Rattle.std.specs.declared.cmp.Ordering.TheVariants.{Less}
use Rattle.std.proofs.lemmas.List.{nil_from_length}
use Rattle.records.specs.Maps.{digits_cmp}

pub digits_total : IsTotalOrder digits_cmp
digits_total = nat_list_cmp_total

-- only equal digits tie
pub digits_exact : IsAntisymmetric digits_cmp
digits_exact = slice_cmp-IsAntisymmetric nat_cmp-IsAntisymmetric

pub same_digits : (p q : List ℕ) → eq_by_cmp digits_cmp p q ≡ true → p ≡ q
same_digits p q e = digits_exact p q ((Equal-is (digits_cmp p q)).0 e)

pub digits_tie : (p : List ℕ) → eq_by_cmp digits_cmp p p ≡ true
digits_tie p = ap is_eq (tied_itself digits_total p)

module _ {X : Type 0} where
  pub find_lookup : (es : List (List ℕ × X)) (q : List ℕ) → map.find digits_cmp q es ≡ lookup (is_at (digits_cmp q)) es
  find_lookup [] q = refl
  find_lookup (e ∷ es) q = ap (cond (is_at (digits_cmp q) e.0) (Some e.1)) (find_lookup es q)

  pub get_view : (es : List (List ℕ × X)) (q : List ℕ) → map.get (map.from_entries {R = digits_cmp} es) q ≡ lookup (is_at (digits_cmp q)) es
  get_view es q = map.get-from_entries digits_total es q ∙ find_lookup es q

  pub view_insert : (es fs : List (List ℕ × X)) (k : List ℕ) (v : X)
      → ((q : List ℕ) → lookup (is_at (digits_cmp q)) fs ≡ cond (is_at (digits_cmp k) q) (Some v) (lookup (is_at (digits_cmp q)) es))
      → map.from_entries {R = digits_cmp} fs ≡ map.insert (map.from_entries es) k v
  view_insert es fs k v h = map.same_map digits_total digits_exact _ _ (λ q.
      get_view fs q ∙ h q ∙ ap (λ b. cond b (Some v) (lookup (is_at (digits_cmp q)) es)) ((eq_by_cmp_equiv digits_total).symm k q)
      ∙ sym (map.get-insert digits_total (map.from_entries es) k v q ∙ ap (cond (eq_by_cmp digits_cmp q k) (Some v)) (get_view es q)))

no_entries : {X : Type 0} → map.entries (map.empty {X = X} {R = digits_cmp}) ≡ []
no_entries = nil_from_length (map.entries map.empty) (sym (map.len-entries map.empty) ∙ map.len-empty digits_cmp _)

below_first : {X : Type 0} (k : List ℕ) (v : X) (es : List (List ℕ × X)) → IsStrictlySortedBy digits_cmp (keys_of ((k, v) ∷ es))
    → map.put digits_cmp k v es ≡ (k, v) ∷ es
unfolding IsStrictlySortedBy
below_first k v [] h = refl
below_first k v (e ∷ es) h = let less : digits_cmp k e.0 ≡ Less = h.0.0 in rw less refl

-- the entries of a tree in order are those of the finite map
pub entries_of_view : {X : Type 0} (es : List (List ℕ × X)) → IsStrictlySortedBy digits_cmp (keys_of es)
    → map.entries (map.from_entries {R = digits_cmp} es) ≡ es
unfolding IsStrictlySortedBy
entries_of_view [] h = no_entries
entries_of_view (e ∷ es) h =
    map.entries-insert digits_total (map.from_entries es) e.0 e.1 ∙ ap (map.put digits_cmp e.0 e.1) (entries_of_view es h.1) ∙ below_first e.0 e.1 es h

pub values_of_view : {X : Type 0} (es : List (List ℕ × X)) → IsStrictlySortedBy digits_cmp (keys_of es)
    → map.values (map.from_entries {R = digits_cmp} es) ≡ values_of es
values_of_view es h = ap values_of (entries_of_view es h)

-- ---- what is found in the part of a map whose keys pass a test

pub find_here : {X : Type 0} (p : List ℕ → Bool) (q k : List ℕ) (v : X) (o w : Option X) (b : Bool) → p k ≡ true → eq_by_cmp digits_cmp q k ≡ b
    → w ≡ cond (p q) o None → cond b (Some v) w ≡ cond (p q) (cond b (Some v) o) None
find_here p q k v o w true pass at rest = let same : p q ≡ true = ap p (same_digits q k at) ∙ pass in rw same refl
find_here p q k v o w false pass at rest = rest

pub find_past : {X : Type 0} (p : List ℕ → Bool) (q k : List ℕ) (v : X) (o w : Option X) (b : Bool) → p k ≡ false → eq_by_cmp digits_cmp q k ≡ b
    → w ≡ cond (p q) o None → w ≡ cond (p q) (cond b (Some v) o) None
find_past p q k v o w true fails at rest = let same : p q ≡ false = ap p (same_digits q k at) ∙ fails in rest ∙ rw same refl
find_past p q k v o w false fails at rest = rest
