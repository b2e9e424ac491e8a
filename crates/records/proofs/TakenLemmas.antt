-- The parts of the shards, filled in the order of the IMSIs.
use Rattle.std.proofs.Common.{◌≡◌, ℕ, zero, suc, ◌<◌, ◌+◌, Bool, true, false, cond, List, [], ◌∷◌}
use Rattle.std.proofs.Common.{◌++◌, map as each, length, get_or, set, take, drop, replicate, refl, sym, ap, subst, ◌∙◌, arith}
use Rattle.std.specs.Prelude.{Option, Some, None, ◌==◌, IsSome, is_some}
use Rattle.std.specs.List.{AllByRecursion}
use Rattle.std.specs.List.Sorted.{IsStrictlySortedBy}
use Rattle.std.specs.Ordering.{eq_by_cmp}
use Rattle.std.specs.declared.cmp.Ordering.TheVariants.{Less}
use Rattle.std.specs.Map.{lookup}
use Rattle.std.specs.BTreeMap.{is_at}
use Rattle.std.specs.FinMap as map
use Rattle.std.proofs.lemmas.Bool.{eqb-true, eqb-false, false≢true}
use Rattle.std.proofs.lemmas.List.{length-set, length-replicate, get_or-replicate, get_or-set_same}
use Rattle.std.proofs.lemmas.List.{get_or-set_other, append-nil, map-append, nil_from_length, take_more}
use Rattle.std.proofs.lemmas.Option.{slice_get-get_or}
use Rattle.records.specs.Subscriber.{Subscriber}
use Rattle.records.specs.Maps.{digits_cmp, RecordMap, part_of, shard_of}
use Rattle.records.specs.Loaded.{imsi_entry, by_imsi}
use Rattle.records.specs.Parts.{AreParts, with_one}
use Rattle.records.specs.Ordered.{AreInOrder, IsAbove}
use Rattle.records.proofs.MapLemmas.{digits_total, digits_exact, same_digits, find_here, find_past, get_view}
use Rattle.records.proofs.InOrder.{view_push, absent_above}

-- ---- one more record in a map, and in the part of its shard

-- whether a record belongs to the shard
abbrev pub is_of : ℕ → List ℕ → Bool
is_of n imsi = shard_of imsi == n

kept : (m : RecordMap) (p : List ℕ → Bool) (q : List ℕ) → map.get (map.retain_keys m p) q ≡ cond (p q) (map.get m q) None
kept m p q = map.get-retain_keys m p q (λ x tie. ap p (sym (digits_exact q x tie)))

kept_insert : (m : RecordMap) (p : List ℕ → Bool) (k : List ℕ) (v : Subscriber) (q : List ℕ)
    → map.get (map.retain_keys (map.insert m k v) p) q ≡ cond (p q) (cond (eq_by_cmp digits_cmp q k) (Some v) (map.get m q)) None
kept_insert m p k v q = kept (map.insert m k v) p q ∙ ap (λ (o : Option Subscriber). cond (p q) o None) (map.get-insert digits_total m k v q)

pub part_takes : (m : RecordMap) (p : List ℕ → Bool) (k : List ℕ) (v : Subscriber) → p k ≡ true
    → map.retain_keys (map.insert m k v) p ≡ map.insert (map.retain_keys m p) k v
part_takes m p k v pass = map.same_map digits_total digits_exact _ _ (λ q.
    kept_insert m p k v q
    ∙ sym (find_here p q k v (map.get m q) (map.get (map.retain_keys m p) q) (eq_by_cmp digits_cmp q k) pass refl (kept m p q))
    ∙ sym (map.get-insert digits_total (map.retain_keys m p) k v q))

pub part_passes : (m : RecordMap) (p : List ℕ → Bool) (k : List ℕ) (v : Subscriber) → p k ≡ false → map.retain_keys (map.insert m k v) p ≡ map.retain_keys m p
part_passes m p k v fails = map.same_map digits_total digits_exact _ _ (λ q.
    kept_insert m p k v q
    ∙ sym (find_past p q k v (map.get m q) (map.get (map.retain_keys m p) q) (eq_by_cmp digits_cmp q k) fails refl (kept m p q)))

some_kept : {A : Type 0} (b : Bool) (o : Option A) → IsSome (cond b o None) → IsSome o
some_kept true o some = some
some_kept false o some = absurd (false≢true some)

-- what comes after all records comes after those of each shard
pub above_part : (m : RecordMap) (p : List ℕ → Bool) (k : List ℕ) → IsAbove m k → IsAbove (map.retain_keys m p) k
above_part m p k above = λ q some. above q (some_kept (p q) (map.get m q) (sym (ap is_some (kept m p q)) ∙ some))

-- ---- what was taken from the front of records in order

abbrev imsis : List Subscriber → List (List ℕ)
imsis ss = each (λ (s : Subscriber). s.imsi) ss

found_below : (b : Bool) (q k : List ℕ) (s : Subscriber) (o : Option Subscriber) → eq_by_cmp digits_cmp q s.imsi ≡ b → digits_cmp s.imsi k ≡ Less
    → (IsSome o → digits_cmp q k ≡ Less) → IsSome (cond b (Some s) o) → digits_cmp q k ≡ Less
found_below true q k s o here less others some = subst (λ (p : List ℕ). digits_cmp p k ≡ Less) (sym (same_digits q s.imsi here)) less
found_below false q k s o here less others some = others some

below_found : (ss : List Subscriber) (k q : List ℕ) → AllByRecursion (λ p. digits_cmp p k ≡ Less) (imsis ss)
    → IsSome (lookup (is_at (digits_cmp q)) (each imsi_entry ss)) → digits_cmp q k ≡ Less
below_found [] k q all some = absurd (false≢true some)
below_found (s ∷ ss) k q all some =
    found_below (eq_by_cmp digits_cmp q s.imsi) q k s (lookup (is_at (digits_cmp q)) (each imsi_entry ss)) refl all.0 (below_found ss k q all.1) some

middle : {A : Type 0} (P : A → Type 0) (xs : List A) (y : A) (zs : List A) → AllByRecursion P (xs ++ y ∷ zs) → P y
middle P [] y zs all = all.0
middle P (x ∷ xs) y zs all = middle P xs y zs all.1

front_below : (front : List (List ℕ)) (k : List ℕ) (rest : List (List ℕ)) → IsStrictlySortedBy digits_cmp (front ++ k ∷ rest)
    → AllByRecursion (λ q. digits_cmp q k ≡ Less) front
unfolding IsStrictlySortedBy
front_below [] k rest sorted = tt
front_below (q ∷ front) k rest sorted = (middle (λ y. digits_cmp q y ≡ Less) front k rest sorted.0, front_below front k rest sorted.1)

pub next_above : (ss done : List Subscriber) (s : Subscriber) (left : List Subscriber) → AreInOrder ss → done ++ s ∷ left ≡ ss → IsAbove (by_imsi done) s.imsi
next_above ss done s left ordered whole =
    let split : imsis ss ≡ imsis done ++ s.imsi ∷ imsis left = ap imsis (sym whole) ∙ map-append (λ (t : Subscriber). t.imsi) done (s ∷ left) in
    let below = front_below (imsis done) s.imsi (imsis left) (subst (λ (ks : List (List ℕ)). IsStrictlySortedBy digits_cmp ks) split ordered) in
    λ q some. below_found done s.imsi q below (sym (ap is_some (get_view (each imsi_entry done) q)) ∙ some)

pub one_more : (ss done : List Subscriber) (s : Subscriber) (left : List Subscriber) → AreInOrder ss → done ++ s ∷ left ≡ ss
    → by_imsi (done ++ s ∷ []) ≡ map.insert (by_imsi done) s.imsi s
one_more ss done s left ordered whole = view_push done s (absent_above (by_imsi done) s.imsi (next_above ss done s left ordered whole))

-- ---- the parts of all shards

abbrev nobody : RecordMap
nobody = map.empty

-- the part of a shard
abbrev pub at : List RecordMap → ℕ → RecordMap
at parts n = get_or parts n nobody

-- Each part has the records of its shard that were taken.
pub record AreTaken (done : List Subscriber) (parts : List RecordMap) : Type 0 where
  pub sixteen : length parts ≡ 16
  pub own : (n : ℕ) → n < 16 → at parts n ≡ part_of (by_imsi done) n

pub none_kept : (p : List ℕ → Bool) → map.empty ≡ map.retain_keys (map.empty {X = Subscriber} {R = digits_cmp}) p
none_kept p = map.same_map digits_total digits_exact _ _ (λ q.
    map.get-empty digits_cmp q
    ∙ sym (kept map.empty p q ∙ ap (λ (o : Option Subscriber). cond (p q) o None) (map.get-empty digits_cmp q) ∙ none_either (p q)))
  where
    none_either : (b : Bool) → ◌≡◌ {A = Option Subscriber} (cond b None None) None
    none_either true = refl
    none_either false = refl

pub parts_begin : (parts : List RecordMap) → parts ≡ replicate 16 nobody → AreTaken [] parts
parts_begin parts are = record {
  sixteen = ap length are ∙ length-replicate 16 nobody;
  own = λ n lt. ap (λ (ps : List RecordMap). at ps n) are ∙ get_or-replicate 16 n nobody nobody lt ∙ none_kept (is_of n);
}

module _ (ss done : List Subscriber) (parts next : List RecordMap) (taken : AreTaken done parts) (s : Subscriber) (left : List Subscriber)
    (ordered : AreInOrder ss) (whole : done ++ s ∷ left ≡ ss) where
  -- the record comes after those in the part of its shard
  pub above_own : (n : ℕ) → n < 16 → IsAbove (at parts n) s.imsi
  above_own n lt =
      subst (λ (m : RecordMap). IsAbove m s.imsi) (sym (taken.own n lt))
      (above_part (by_imsi done) (is_of n) s.imsi (next_above ss done s left ordered whole))

  module _ (puts : next ≡ with_one parts s) where
    here : (n : ℕ) → n < 16 → shard_of s.imsi ≡ n → at next n ≡ map.insert (at parts n) s.imsi s
    here n lt own =
        ap (λ (ps : List RecordMap). at ps n) puts
        ∙ ap (λ k. at (with_at k) n) own
        ∙ get_or-set_same parts n (map.insert (at parts n) s.imsi s) nobody (omega (arith, taken.sixteen))
      where
        with_at : ℕ → List RecordMap
        with_at k = set parts k (map.insert (at parts k) s.imsi s)

    elsewhere : (n : ℕ) → (shard_of s.imsi ≡ n → ⊥) → at next n ≡ at parts n
    elsewhere n other =
        ap (λ (ps : List RecordMap). at ps n) puts
        ∙ get_or-set_other parts (shard_of s.imsi) n (map.insert (at parts (shard_of s.imsi)) s.imsi s) nobody (λ e. other (sym e))

    pub parts_take : AreTaken (done ++ s ∷ []) next
    parts_take = record {
      sixteen = ap length puts ∙ length-set parts (shard_of s.imsi) (map.insert (at parts (shard_of s.imsi)) s.imsi s) ∙ taken.sixteen;
      own = λ n lt.
          elim (is_of n s.imsi) as (λ b. is_of n s.imsi ≡ b → at next n ≡ part_of (by_imsi (done ++ s ∷ [])) n) [
            | true ↦ λ e.
                here n lt (eqb-true (shard_of s.imsi) n e) ∙ ap (λ (m : RecordMap). map.insert m s.imsi s) (taken.own n lt)
                ∙ sym (part_takes (by_imsi done) (is_of n) s.imsi s e) ∙ ap (λ (m : RecordMap). part_of m n) (sym (one_more ss done s left ordered whole))
            | false ↦ λ e.
                elsewhere n (eqb-false (shard_of s.imsi) n e) ∙ taken.own n lt
                ∙ sym (part_passes (by_imsi done) (is_of n) s.imsi s e) ∙ ap (λ (m : RecordMap). part_of m n) (sym (one_more ss done s left ordered whole))
          ] refl;
    }

pub parts_end : (ss done : List Subscriber) (parts : List RecordMap) (records : RecordMap) → AreTaken done parts → done ≡ ss → by_imsi ss ≡ records
    → AreParts records parts
parts_end ss done parts records taken whole seen = record {
  sixteen = taken.sixteen;
  own = λ n lt.
      slice_get-get_or parts n nobody (omega (arith, taken.sixteen))
      ∙ ap Some (taken.own n lt ∙ ap (λ (m : RecordMap). part_of m n) (ap by_imsi whole ∙ seen));
}

pub shard_small : (imsi : List ℕ) → shard_of imsi < 16
unfolding shard_of
shard_small imsi = omega arith

pub none_left : {A : Type 0} (xs ys zs : List A) → xs ++ ys ≡ zs → length ys ≡ 0 → xs ≡ zs
none_left {A = A} xs ys zs whole none = sym (append-nil xs) ∙ ap (λ (l : List A). xs ++ l) (sym (nil_from_length ys none)) ∙ whole

-- ---- the part of one shard, by places

split_at : (ss : List Subscriber) (i : ℕ) (s : Subscriber) → i < length ss → s ≡ get_or ss i s → take i ss ++ s ∷ drop (suc i) ss ≡ ss
split_at [] i s lt is = absurd (omega arith)
split_at (t ∷ ss) zero s lt is = ap (λ (u : Subscriber). u ∷ ss) is
split_at (t ∷ ss) (suc i) s lt is = ap (λ (us : List Subscriber). t ∷ us) (split_at ss i s (omega arith) is)

module _ (ss : List Subscriber) (i : ℕ) (s : Subscriber) (n : ℕ) (ordered : AreInOrder ss) (lt : i < length ss) (is : s ≡ get_or ss i s) where
  -- the record comes after those that were taken
  pub above_taken : (part : RecordMap) → part ≡ part_of (by_imsi (take i ss)) n → IsAbove part s.imsi
  above_taken part at =
      subst (λ (m : RecordMap). IsAbove m s.imsi) (sym at)
      (above_part (by_imsi (take i ss)) (is_of n) s.imsi (next_above ss (take i ss) s (drop (suc i) ss) ordered (split_at ss i s lt is)))

  more : by_imsi (take (i + 1) ss) ≡ map.insert (by_imsi (take i ss)) s.imsi s
  more =
      ap by_imsi (take_more ss i s lt ∙ ap (λ (t : Subscriber). take i ss ++ t ∷ []) (sym is))
      ∙ one_more ss (take i ss) s (drop (suc i) ss) ordered (split_at ss i s lt is)

  pub takes : (part next : RecordMap) → is_of n s.imsi ≡ true → part ≡ part_of (by_imsi (take i ss)) n → next ≡ map.insert part s.imsi s
      → next ≡ part_of (by_imsi (take (i + 1) ss)) n
  takes part next own at adds =
      adds ∙ ap (λ (m : RecordMap). map.insert m s.imsi s) at ∙ sym (part_takes (by_imsi (take i ss)) (is_of n) s.imsi s own)
      ∙ ap (λ (m : RecordMap). part_of m n) (sym more)

  pub passes : (part : RecordMap) → is_of n s.imsi ≡ false → part ≡ part_of (by_imsi (take i ss)) n → part ≡ part_of (by_imsi (take (i + 1) ss)) n
  passes part other at = at ∙ sym (part_passes (by_imsi (take i ss)) (is_of n) s.imsi s other) ∙ ap (λ (m : RecordMap). part_of m n) (sym more)
