-- Records in the order of the lines, and sorted.
use Rattle.std.proofs.Common.{◌≡◌, ℕ, ◌+◌, Bool, true, false, cond, List, [], ◌∷◌, ◌++◌, map as each, length, get_or, refl, sym, ap, subst, ◌∙◌, arith}
use Rattle.std.specs.Prelude.{Option, Some, None, is_some, slice_get}
use Rattle.std.specs.List.{AllByRecursion, IsDistinct, list_any}
use Rattle.std.specs.List.Sorted.{IsPermutation, IsSortedByKey, IsStrictlySortedBy}
use Rattle.std.specs.Ordering.{eq_by_cmp, is_eq, is_lt, ordering_reverse}
use Rattle.std.specs.declared.cmp.Ordering.{Ordering}
use Rattle.std.specs.declared.cmp.Ordering.TheVariants.{Less, Equal, Greater}
use Rattle.std.specs.Cmp.{eq_by_cmp_equiv}
use Rattle.std.specs.Map.{lookup, keys_of}
use Rattle.std.specs.BTreeMap.{is_at}
use Rattle.std.specs.FinMap as map
use Rattle.std.proofs.lemmas.Bool.{false≢true}
use Rattle.std.proofs.lemmas.List.{get_or-map, map-append, length-map}
use Rattle.std.proofs.lemmas.List.Sorted.{IsPermutation-map, IsPermutation-sym, Contains-permutation}
use Rattle.std.proofs.lemmas.Map.{none_passes_from_lookup}
use Rattle.std.proofs.lemmas.Map.Entries.{place_from_lookup, lookup_from_place}
use Rattle.std.proofs.lemmas.Map.Keys.{IsDistinct-IsPermutation, IsDistinct-push, IsDistinct-from_sorted, apart_from_distinct, sorted_from_all_adjacent}
use Rattle.std.proofs.lemmas.Option.{slice_get-get_or, slice_get_within, get_or_from_slice_get}
use Rattle.records.specs.Subscriber.{Subscriber}
use Rattle.records.specs.Maps.{digits_cmp, RecordMap}
use Rattle.records.specs.Loaded.{imsi_entry, by_imsi}
use Rattle.records.specs.Ordered.{AreInOrder, AreApartAs, AreDistinct}
use Rattle.records.proofs.MapLemmas.{digits_total, digits_exact, same_digits, get_view}
use Rattle.records.proofs.InOrder.{keys_are, ordered_keys, view_push, ordered_none}

-- ---- entries that change places

module _ {X : Type 0} where
  moved : (es fs : List (List ℕ × X)) (q : List ℕ) (x : X) → IsPermutation es fs → AreDistinct fs
      → lookup (is_at (digits_cmp q)) es ≡ Some x → lookup (is_at (digits_cmp q)) fs ≡ Some x
  moved es fs q x moves apart found =
      let (i, k, at, tie) = place_from_lookup (is_at (digits_cmp q)) es x found in
      let same : q ≡ k = same_digits q k tie in
      let (j, lt, there) = Contains-permutation es fs (k, x) moves (i, slice_get_within es i (k, x) at, get_or_from_slice_get es i (k, x) (k, x) at) in
      let place : slice_get fs j ≡ Some (k, x) = slice_get-get_or fs j (k, x) lt ∙ ap Some there in
      subst (λ (p : List ℕ). lookup (is_at (digits_cmp p)) fs ≡ Some x) (sym same) (lookup_from_place (eq_by_cmp_equiv digits_total) fs j k x apart place)

  same_lookup : (o p : Option X) → ((x : X) → o ≡ Some x → p ≡ Some x) → ((x : X) → p ≡ Some x → o ≡ Some x) → p ≡ o
  same_lookup None None there back = refl
  same_lookup None (Some x) there back = sym (back x refl)
  same_lookup (Some x) p there back = there x refl

  pub distinct_moved : (es fs : List (List ℕ × X)) → IsPermutation es fs → AreDistinct es → AreDistinct fs
  distinct_moved es fs moves apart =
      let keys = λ (e : List ℕ × X). e.0 in
      IsDistinct-IsPermutation (eq_by_cmp digits_cmp) (eq_by_cmp_equiv digits_total).symm (keys_of es) (keys_of fs) (IsPermutation-map keys es fs moves) apart

  pub distinct_before : (es fs : List (List ℕ × X)) → IsPermutation es fs → IsStrictlySortedBy digits_cmp (keys_of fs) → AreDistinct es
  distinct_before es fs moves ordered = distinct_moved fs es (IsPermutation-sym es fs moves) (IsDistinct-from_sorted digits_cmp (keys_of fs) ordered)

  -- the map does not depend on the order of entries whose keys are distinct
  pub entries_moved : (es fs : List (List ℕ × X)) → IsPermutation es fs → AreDistinct es → map.from_entries {R = digits_cmp} fs ≡ map.from_entries es
  entries_moved es fs moves apart = map.same_map digits_total digits_exact _ _ (λ q.
      get_view fs q
      ∙ same_lookup (lookup (is_at (digits_cmp q)) es) (lookup (is_at (digits_cmp q)) fs)
      (λ x. moved es fs q x moves (distinct_moved es fs moves apart)) (λ x. moved fs es q x (IsPermutation-sym es fs moves) apart)
      ∙ sym (get_view es q))

-- nor on that of records that no two share an IMSI
pub view_moved : (ss ts : List Subscriber) → IsPermutation ss ts → AreDistinct (each imsi_entry ss) → by_imsi ts ≡ by_imsi ss
view_moved ss ts moves apart = entries_moved (each imsi_entry ss) (each imsi_entry ts) (IsPermutation-map imsi_entry ss ts moves) apart

pub imsis_before : (ss ts : List Subscriber) → IsPermutation ss ts → AreInOrder ts → AreDistinct (each imsi_entry ss)
imsis_before ss ts moves ordered =
    distinct_before (each imsi_entry ss) (each imsi_entry ts) (IsPermutation-map imsi_entry ss ts moves) (ordered_keys ts ordered)

-- ---- sorted, and none twice

strictly : (p q : List ℕ) (o : Ordering) → digits_cmp p q ≡ o → is_lt (digits_cmp q p) ≡ false → eq_by_cmp digits_cmp p q ≡ false → digits_cmp p q ≡ Less
strictly p q Less is not_above apart = is
strictly p q Equal is not_above apart = absurd (false≢true (sym apart ∙ ap is_eq is))
strictly p q Greater is not_above apart = absurd (false≢true (sym not_above ∙ ap is_lt (digits_total.antisymm q p ∙ ap ordering_reverse is)))

sorted_with : (ss ts : List Subscriber) (d : Subscriber) → IsPermutation ss ts → AreDistinct (each imsi_entry ss)
    → IsSortedByKey (λ (s : Subscriber). s.imsi) digits_cmp ts → AreInOrder ts
sorted_with ss ts d moves apart sorted =
    let imsi = λ (s : Subscriber). s.imsi in
    let mine : IsDistinct (eq_by_cmp digits_cmp) (each imsi ss) = subst (λ (ks : List (List ℕ)). IsDistinct (eq_by_cmp digits_cmp) ks) (keys_are ss) apart in
    let others : IsDistinct (eq_by_cmp digits_cmp) (each imsi ts) =
    IsDistinct-IsPermutation (eq_by_cmp digits_cmp) (eq_by_cmp_equiv digits_total).symm (each imsi ss) (each imsi ts)
    (IsPermutation-map imsi ss ts moves) mine in
    let many : length (each imsi ts) ≡ length ts = length-map ts imsi in
    sorted_from_all_adjacent digits_total (each imsi ts) d.imsi (λ k lt.
    let here = get_or-map imsi ts k d d.imsi (omega arith) in
    let next = get_or-map imsi ts (k + 1) d d.imsi (omega arith) in
    let p = get_or (each imsi ts) k d.imsi in
    let q = get_or (each imsi ts) (k + 1) d.imsi in
    let not_above : is_lt (digits_cmp q p) ≡ false =
    ap (λ (r : List ℕ). is_lt (digits_cmp r p)) next ∙ ap (λ (r : List ℕ). is_lt (digits_cmp (get_or ts (k + 1) d).imsi r)) here
    ∙ sorted k d (omega arith) (omega arith) in
    strictly p q (digits_cmp p q) refl not_above (apart_from_distinct (eq_by_cmp digits_cmp) (each imsi ts) k (k + 1) d.imsi others (omega arith) lt))

pub sorted_in_order : (ss ts : List Subscriber) → IsPermutation ss ts → AreDistinct (each imsi_entry ss)
    → IsSortedByKey (λ (s : Subscriber). s.imsi) digits_cmp ts → AreInOrder ts
sorted_in_order ss [] moves apart sorted = ordered_none
sorted_in_order ss (t ∷ ts) moves apart sorted = sorted_with ss (t ∷ ts) t moves apart sorted

-- ---- one more record

none_among : (ss : List Subscriber) (k : List ℕ) → AllByRecursion (λ (e : List ℕ × Subscriber). is_at (digits_cmp k) e.0 ≡ false) (each imsi_entry ss)
    → list_any (eq_by_cmp digits_cmp k) (keys_of (each imsi_entry ss)) ≡ false
none_among [] k none = refl
none_among (s ∷ ss) k none = rw (none.0) (none_among ss k none.1)

known_more : (q k : List ℕ) (v : Subscriber) (known now : Bool) (o : Option Subscriber) (b c : Bool) → b ≡ c → now ≡ cond b true known → known ≡ is_some o
    → now ≡ is_some (cond c (Some v) o)
known_more q k v known now o true c same adds is = adds ∙ rw (sym same) refl
known_more q k v known now o false c same adds is = adds ∙ is ∙ rw (sym same) refl

pub apart_push : (ks ls : List (List ℕ)) (ss : List Subscriber) (v : Subscriber) → AreApartAs ks ss → map.get (by_imsi ss) v.imsi ≡ None
    → ((q : List ℕ) → list_any (eq_by_cmp digits_cmp q) ls ≡ cond (eq_by_cmp digits_cmp v.imsi q) true (list_any (eq_by_cmp digits_cmp q) ks))
    → AreApartAs ls (ss ++ v ∷ [])
apart_push ks ls ss v at none adds =
    let es = each imsi_entry ss in
    let new : list_any (eq_by_cmp digits_cmp v.imsi) (keys_of es) ≡ false =
    none_among ss v.imsi (none_passes_from_lookup (is_at (digits_cmp v.imsi)) es (sym (get_view es v.imsi) ∙ none)) in
    let keys : keys_of (each imsi_entry (ss ++ v ∷ [])) ≡ keys_of es ++ v.imsi ∷ [] =
    ap keys_of (map-append imsi_entry ss (v ∷ [])) ∙ map-append (λ (e : List ℕ × Subscriber). e.0) es (imsi_entry v ∷ []) in
    record {
      apart = subst (λ (l : List (List ℕ)). IsDistinct (eq_by_cmp digits_cmp) l) (sym keys)
          (IsDistinct-push (eq_by_cmp_equiv digits_total) (keys_of es) v.imsi at.apart new);
      known = λ q.
          known_more q v.imsi v (list_any (eq_by_cmp digits_cmp q) ks) (list_any (eq_by_cmp digits_cmp q) ls)
          (map.get (by_imsi ss) q) (eq_by_cmp digits_cmp v.imsi q) (eq_by_cmp digits_cmp q v.imsi)
          ((eq_by_cmp_equiv digits_total).symm v.imsi q) (adds q) (at.known q)
          ∙ ap is_some (sym (ap (λ (m : RecordMap). map.get m q) (view_push ss v none) ∙ map.get-insert digits_total (by_imsi ss) v.imsi v q));
    }

pub apart_none : (ks : List (List ℕ)) → ks ≡ [] → AreApartAs ks []
unfolding IsDistinct
apart_none ks none = record { apart = tt; known = λ q. ap (list_any (eq_by_cmp digits_cmp q)) none ∙ ap is_some (sym (map.get-empty digits_cmp q)) }
