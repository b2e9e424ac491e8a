-- Records in the order of their IMSIs, as the finite map that they stand for.
use Rattle.std.proofs.Common.{◌≡◌, ℕ, zero, suc, ◌<◌, Bool, true, false, cond, List, []}
use Rattle.std.proofs.Common.{◌∷◌, ◌++◌, map as each, length, get_or, set, refl, sym, ap, subst, ◌∙◌, arith}
use Rattle.std.specs.Prelude.{Option, Some, None, All, IsSome, is_some}
use Rattle.std.specs.Bool.{Decides}
use Rattle.std.specs.List.{AllByRecursion}
use Rattle.std.specs.List.Sorted.{IsStrictlySortedBy}
use Rattle.std.specs.Ordering.{eq_by_cmp, is_eq}
use Rattle.std.specs.declared.cmp.Ordering.TheVariants.{Less}
use Rattle.std.specs.Cmp.{eq_by_cmp_equiv}
use Rattle.std.specs.Map.{lookup, keys_of, values_of}
use Rattle.std.specs.BTreeMap.{is_at}
use Rattle.std.specs.FinMap as map
use Rattle.std.proofs.lemmas.Bool.{false≢true}
use Rattle.std.proofs.lemmas.Option.{same_Some}
use Rattle.std.proofs.lemmas.List.{get_or-map, map-append, length-map}
use Rattle.std.proofs.lemmas.List.Elements.{recursion_from_All}
use Rattle.std.proofs.lemmas.Map.Keys.{sorted_head, sorted_tail}
use Rattle.records.specs.Subscriber.{Subscriber}
use Rattle.records.specs.Maps.{AreByImsi, digits_cmp, RecordMap}
use Rattle.records.specs.Loaded.{imsi_entry, by_imsi}
use Rattle.records.specs.Ordered.{AreInOrder, IsPlaceOf, IsAbove}
use Rattle.records.proofs.MapLemmas.{digits_total, digits_exact, same_digits, digits_tie, get_view, view_insert, values_of_view}
use Rattle.records.proofs.OrderLemmas.{hit}

abbrev imsis : List Subscriber → List (List ℕ)
imsis ss = each (λ (s : Subscriber). s.imsi) ss

pub keys_are : (ss : List Subscriber) → keys_of (each imsi_entry ss) ≡ imsis ss
keys_are [] = refl
keys_are (s ∷ ss) = ap (λ (ks : List (List ℕ)). s.imsi ∷ ks) (keys_are ss)

values_are : (ss : List Subscriber) → values_of (each imsi_entry ss) ≡ ss
values_are [] = refl
values_are (s ∷ ss) = ap (λ (ts : List Subscriber). s ∷ ts) (values_are ss)

pub ordered_keys : (ss : List Subscriber) → AreInOrder ss → IsStrictlySortedBy digits_cmp (keys_of (each imsi_entry ss))
ordered_keys ss ordered = subst (λ (ks : List (List ℕ)). IsStrictlySortedBy digits_cmp ks) (sym (keys_are ss)) ordered

-- the records are the values of the map in their order
pub values_in_order : (ss : List Subscriber) → AreInOrder ss → map.values (by_imsi ss) ≡ ss
values_in_order ss ordered = values_of_view (each imsi_entry ss) (ordered_keys ss ordered) ∙ values_are ss

-- maps of records in order are equal if the records are
pub same_in_order : (ss ts : List Subscriber) (m n : RecordMap) (r : Bool) → by_imsi ss ≡ m → by_imsi ts ≡ n → AreInOrder ss → AreInOrder ts
    → Decides r (ss ≡ ts) → Decides r (m ≡ n)
same_in_order ss ts m n r mine theirs ordered others same = (
  (λ t. sym mine ∙ ap by_imsi (same.0 t) ∙ theirs),
  λ e. same.1 (sym (values_in_order ss ordered) ∙ ap (λ (records : RecordMap). map.values records) (mine ∙ e ∙ sym theirs) ∙ values_in_order ts others),
)

-- each record is under its own IMSI
pub own_imsis : (ss : List Subscriber) → AreByImsi (by_imsi ss)
own_imsis [] imsi s e = let none : None ≡ Some s = sym (map.get-empty digits_cmp imsi) ∙ e in absurd cc
own_imsis (t ∷ ss) imsi s e =
    by (own_imsis ss imsi s) (eq_by_cmp digits_cmp imsi t.imsi) refl (sym (map.get-insert digits_total (by_imsi ss) t.imsi t imsi) ∙ e)
  where
    by : (map.get (by_imsi ss) imsi ≡ Some s → s.imsi ≡ imsi) → (b : Bool) → eq_by_cmp digits_cmp imsi t.imsi ≡ b
        → cond b (Some t) (map.get (by_imsi ss) imsi) ≡ Some s → s.imsi ≡ imsi
    by later true tie is = ap (λ (r : Subscriber). r.imsi) (same_Some s t (sym is)) ∙ sym (same_digits imsi t.imsi tie)
    by later false other is = later is

-- ---- a record is found

pub found_at : (ss : List Subscriber) (k : List ℕ) (at : ℕ) (d : Subscriber) → AreInOrder ss → IsPlaceOf ss k at
    → map.get (by_imsi ss) k ≡ Some (get_or ss at d)
found_at ss k at d ordered is =
    let es = each imsi_entry ss in
    let many : length es ≡ length ss = length-map ss imsi_entry in
    let lt : at < length ss = is.inside in
    let here = get_or-map imsi_entry ss at d (imsi_entry d) lt in
    get_view es k ∙ hit es k at (imsi_entry d) (ordered_keys ss ordered) (omega arith) (ap (λ (e : List ℕ × Subscriber). e.0) here ∙ is.own d)
    ∙ ap (λ (e : List ℕ × Subscriber). Some e.1) here

none_found : (ss : List Subscriber) (k : List ℕ) → AllByRecursion (λ s. eq_by_cmp digits_cmp k s.imsi ≡ false) ss
    → lookup (is_at (digits_cmp k)) (each imsi_entry ss) ≡ None
none_found [] k none = refl
none_found (s ∷ ss) k none = ap (λ b. cond b (Some s) (lookup (is_at (digits_cmp k)) (each imsi_entry ss))) none.0 ∙ none_found ss k none.1

pub missing : (ss : List Subscriber) (k : List ℕ) → All (λ s. eq_by_cmp digits_cmp k s.imsi ≡ false) ss → map.get (by_imsi ss) k ≡ None
missing ss k none = get_view (each imsi_entry ss) k ∙ none_found ss k (recursion_from_All (λ s. eq_by_cmp digits_cmp k s.imsi ≡ false) ss none)

-- ---- a record changes in its place

set_imsis : (ss : List Subscriber) (at : ℕ) (v : Subscriber) → ((d : Subscriber) → (get_or ss at d).imsi ≡ v.imsi) → at < length ss
    → imsis (set ss at v) ≡ imsis ss
set_imsis [] at v own lt = absurd (omega arith)
set_imsis (s ∷ ss) zero v own lt = ap (λ (k : List ℕ). k ∷ imsis ss) (sym (own s))
set_imsis (s ∷ ss) (suc at) v own lt = ap (λ (ks : List (List ℕ)). s.imsi ∷ ks) (set_imsis ss at v own (omega arith))

pub ordered_set : (ss : List Subscriber) (at : ℕ) (v : Subscriber) → AreInOrder ss → IsPlaceOf ss v.imsi at → AreInOrder (set ss at v)
ordered_set ss at v ordered is = subst (λ (ks : List (List ℕ)). IsStrictlySortedBy digits_cmp ks) (sym (set_imsis ss at v is.own is.inside)) ordered

first_set : (b c e : Bool) (v s : Subscriber) (o : Option Subscriber) → c ≡ b → e ≡ b → cond b (Some v) o ≡ cond c (Some v) (cond e (Some s) o)
first_set true c e v s o is same = rw is refl
first_set false c e v s o is same = rw (is, same) refl

later_set : (b c : Bool) (v s : Subscriber) (o : Option Subscriber) → (b ≡ true → c ≡ true → ⊥)
    → cond b (Some s) (cond c (Some v) o) ≡ cond c (Some v) (cond b (Some s) o)
later_set true true v s o not = absurd (not refl refl)
later_set true false v s o not = refl
later_set false true v s o not = refl
later_set false false v s o not = refl

below_all : (ss : List Subscriber) (k : List ℕ) (at : ℕ) (d : Subscriber) → AllByRecursion (λ y. digits_cmp k y ≡ Less) (imsis ss) → at < length ss
    → digits_cmp k (get_or ss at d).imsi ≡ Less
below_all [] k at d all lt = absurd (omega arith)
below_all (s ∷ ss) k zero d all lt = all.0
below_all (s ∷ ss) k (suc at) d all lt = below_all ss k at d all.1 (omega arith)

pub not_itself : {A : Type 0} (k : List ℕ) → digits_cmp k k ≡ Less → A
not_itself k less = absurd (false≢true (ap is_eq (sym less) ∙ digits_tie k))

set_found : (ss : List Subscriber) (at : ℕ) (v : Subscriber) (q : List ℕ) → AreInOrder ss → ((d : Subscriber) → (get_or ss at d).imsi ≡ v.imsi)
    → at < length ss
    → lookup (is_at (digits_cmp q)) (each imsi_entry (set ss at v))
    ≡ cond (is_at (digits_cmp v.imsi) q) (Some v) (lookup (is_at (digits_cmp q)) (each imsi_entry ss))
set_found [] at v q ordered own lt = absurd (omega arith)
set_found (s ∷ ss) zero v q ordered own lt =
    first_set (eq_by_cmp digits_cmp q v.imsi) (eq_by_cmp digits_cmp v.imsi q) (eq_by_cmp digits_cmp q s.imsi) v s
    (lookup (is_at (digits_cmp q)) (each imsi_entry ss))
    ((eq_by_cmp_equiv digits_total).symm v.imsi q) (ap (λ (k : List ℕ). eq_by_cmp digits_cmp q k) (own s))
set_found (s ∷ ss) (suc at) v q ordered own lt =
    ap (cond (eq_by_cmp digits_cmp q s.imsi) (Some s)) (set_found ss at v q (sorted_tail digits_cmp s.imsi (imsis ss) ordered) own (omega arith))
    ∙ later_set (eq_by_cmp digits_cmp q s.imsi) (eq_by_cmp digits_cmp v.imsi q) v s (lookup (is_at (digits_cmp q)) (each imsi_entry ss)) (λ here there.
    let same : v.imsi ≡ s.imsi = same_digits v.imsi q there ∙ same_digits q s.imsi here in
    let less = below_all ss s.imsi at s (sorted_head digits_cmp s.imsi (imsis ss) ordered) (omega arith) in
    not_itself s.imsi (subst (λ (k : List ℕ). digits_cmp s.imsi k ≡ Less) (own s ∙ same) less))

-- the record of that IMSI alone changes
pub view_set : (ss : List Subscriber) (at : ℕ) (v : Subscriber) → AreInOrder ss → IsPlaceOf ss v.imsi at
    → by_imsi (set ss at v) ≡ map.insert (by_imsi ss) v.imsi v
view_set ss at v ordered is = view_insert (each imsi_entry ss) (each imsi_entry (set ss at v)) v.imsi v (λ q. set_found ss at v q ordered is.own is.inside)

-- What is at the place of an IMSI is its record.
pub known_at : (ss : List Subscriber) (m : RecordMap) (k : List ℕ) (at : ℕ) (found : Subscriber) → AreInOrder ss → by_imsi ss ≡ m → IsPlaceOf ss k at
    → found ≡ get_or ss at found → map.get m k ≡ Some found
known_at ss m k at found ordered seen is here = ap (λ (n : RecordMap). map.get n k) (sym seen) ∙ found_at ss k at found ordered is ∙ ap Some (sym here)

-- A record changes, but not its IMSI.
module _ (ss : List Subscriber) (k : List ℕ) (at : ℕ) (found v : Subscriber) (ordered : AreInOrder ss) (is : IsPlaceOf ss k at)
    (here : found ≡ get_or ss at found) (keeps : v.imsi ≡ found.imsi) where
  own_imsi : v.imsi ≡ k
  own_imsi = keeps ∙ ap (λ (s : Subscriber). s.imsi) here ∙ is.own found

  still_there : IsPlaceOf ss v.imsi at
  still_there = subst (λ (i : List ℕ). IsPlaceOf ss i at) (sym own_imsi) is

  pub changed_order : AreInOrder (set ss at v)
  changed_order = ordered_set ss at v ordered still_there

  pub changed_view : (m : RecordMap) (f : Subscriber → Subscriber) → by_imsi ss ≡ m → v ≡ f found → (s : Subscriber) → map.get m k ≡ Some s
      → by_imsi (set ss at v) ≡ map.insert m k (f s)
  changed_view m f seen becomes s known =
      let some : Some found ≡ Some s = sym (known_at ss m k at found ordered seen is here) ∙ known in
      let same : found ≡ s = cc in
      view_set ss at v ordered still_there ∙ ap (λ (n : RecordMap). map.insert n v.imsi v) seen ∙ ap (λ (i : List ℕ). map.insert m i v) own_imsi
      ∙ ap (λ (t : Subscriber). map.insert m k t) (becomes ∙ ap f same)

-- ---- one more record

pub ordered_none : AreInOrder []
unfolding IsStrictlySortedBy
ordered_none = tt

pub view_push : (ss : List Subscriber) (v : Subscriber) → map.get (by_imsi ss) v.imsi ≡ None → by_imsi (ss ++ v ∷ []) ≡ map.insert (by_imsi ss) v.imsi v
view_push ss v none =
    ap (λ (es : List (List ℕ × Subscriber)). map.from_entries es) (map-append imsi_entry ss (v ∷ []))
    ∙ map.from_entries_push digits_total digits_exact (each imsi_entry ss) v.imsi v (sym (map.get-from_entries digits_total (each imsi_entry ss) v.imsi) ∙ none)

pub absent_above : (m : RecordMap) (k : List ℕ) → IsAbove m k → map.get m k ≡ None
absent_above m k above =
    elim (map.get m k) as (λ (o : Option Subscriber). map.get m k ≡ o → o ≡ None) [
      | None ↦ λ e. refl
      | Some s ↦ λ e. not_itself k (above k (ap is_some e))
    ] refl

still_some : (b : Bool) (s : Subscriber) (o : Option Subscriber) → IsSome o → IsSome (cond b (Some s) o)
still_some true s o some = refl
still_some false s o some = some

first_some : (b : Bool) (s : Subscriber) (o : Option Subscriber) → b ≡ true → IsSome (cond b (Some s) o)
first_some b s o e = ap (λ c. is_some (cond c (Some s) o)) e

below_push : (ss : List Subscriber) (k : List ℕ) → ((q : List ℕ) → IsSome (lookup (is_at (digits_cmp q)) (each imsi_entry ss)) → digits_cmp q k ≡ Less)
    → AllByRecursion (λ q. digits_cmp q k ≡ Less) (imsis ss)
below_push [] k above = tt
below_push (s ∷ ss) k above = (
  above s.imsi (first_some (eq_by_cmp digits_cmp s.imsi s.imsi) s (lookup (is_at (digits_cmp s.imsi)) (each imsi_entry ss)) (digits_tie s.imsi)),
  below_push ss k (λ q some. above q (still_some (eq_by_cmp digits_cmp q s.imsi) s (lookup (is_at (digits_cmp q)) (each imsi_entry ss)) some)),
)

all_and_one : {A : Type 0} (P : A → Type 0) (xs : List A) (y : A) → AllByRecursion P xs → P y → AllByRecursion P (xs ++ y ∷ [])
all_and_one P [] y all one = (one, tt)
all_and_one P (x ∷ xs) y all one = (all.0, all_and_one P xs y all.1 one)

sorted_push : (ks : List (List ℕ)) (k : List ℕ) → IsStrictlySortedBy digits_cmp ks → AllByRecursion (λ q. digits_cmp q k ≡ Less) ks
    → IsStrictlySortedBy digits_cmp (ks ++ k ∷ [])
unfolding IsStrictlySortedBy
sorted_push [] k sorted below = (tt, tt)
sorted_push (q ∷ ks) k sorted below = (all_and_one (λ y. digits_cmp q y ≡ Less) ks k sorted.0 below.0, sorted_push ks k sorted.1 below.1)

pub ordered_push : (ss : List Subscriber) (v : Subscriber) → AreInOrder ss → IsAbove (by_imsi ss) v.imsi → AreInOrder (ss ++ v ∷ [])
ordered_push ss v ordered above =
    subst (λ (ks : List (List ℕ)). IsStrictlySortedBy digits_cmp ks) (sym (map-append (λ (s : Subscriber). s.imsi) ss (v ∷ [])))
    (sorted_push (imsis ss) v.imsi ordered (below_push ss v.imsi (λ q some. above q (ap is_some (get_view (each imsi_entry ss) q) ∙ some))))
