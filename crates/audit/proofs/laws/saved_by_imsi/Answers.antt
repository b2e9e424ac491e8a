use Rattle.std.proofs.Common.{◌≡◌, ◌⊎◌, ℕ, zero, suc, ◌<◌, List, [], ◌∷◌, ◌++◌, true, false, get_or, refl, sym, ap, subst, ◌∙◌, inl, inr, arith}
use Rattle.std.specs.Prelude.{codes as text}
use Rattle.std.specs.List.{IsDistinct, filter, swap}
use Rattle.std.specs.List.Sorted.{IsSortedByKey, SwapsInRange, apply_swaps}
use Rattle.std.proofs.lemmas.Bool.{ltb-true}
use Rattle.hlr_types.specs.Digits.{AreImsiDigits, AreSomeDigits}
use Rattle.records.specs.File.{AreApart, File}
use Rattle.records.specs.Maps.{digits_cmp}
use Rattle.records.specs.Subscriber.{IsRecord, Subscriber}
use Rattle.records.specs.Written.{saved_contents, saved_file}
use Rattle.records.proofs.FieldLaws.{number_found}
use Rattle.records.proofs.LineLaws.{imsi_found}
use Rattle.records.proofs.SavedLaws.{saved_is_read}
use Rattle.shardlog.specs.Log.{Log}
use Rattle.audit.specs.Examples as example
use Rattle.audit.specs.Examples.{header, hlr, line_0, line_1, of_shard_0, of_shard_1}
use Rattle.audit.specs.Listing.{imsi_of, records_in}
use Rattle.audit.specs.Orders.{InOrder, tie}
use Rattle.audit.specs.Saving.{SavesUnder}
use Rattle.audit.proofs.Saving.{apart_in_order}
use Rattle.audit.proofs.laws.saved_by_imsi.Goals as goal

abbrev by_shard : List Subscriber
by_shard = of_shard_0 ∷ of_shard_1 ∷ []

abbrev by_imsi : List Subscriber
by_imsi = of_shard_1 ∷ of_shard_0 ∷ []

-- ---- their order

-- an exchange leaves two as they are, or turns them
exchanged : {X : Type 0} (x y : X) (i j : ℕ) → i < 2 → j < 2 → (swap (x ∷ y ∷ []) i j ≡ x ∷ y ∷ []) ⊎ (swap (x ∷ y ∷ []) i j ≡ y ∷ x ∷ [])
exchanged x y zero zero small low = inl refl
exchanged x y zero (suc zero) small low = inr refl
exchanged x y (suc zero) zero small low = inr refl
exchanged x y (suc zero) (suc zero) small low = inl refl
exchanged x y zero (suc (suc j)) small low = absurd (omega (arith, low))
exchanged x y (suc zero) (suc (suc j)) small low = absurd (omega (arith, low))
exchanged x y (suc (suc i)) j small low = absurd (omega (arith, small))

all_exchanged : {X : Type 0} (x y : X) (moves : List (ℕ × ℕ)) → SwapsInRange 2 moves
    → (apply_swaps (x ∷ y ∷ []) moves ≡ x ∷ y ∷ []) ⊎ (apply_swaps (x ∷ y ∷ []) moves ≡ y ∷ x ∷ [])
all_exchanged x y [] below = inl refl
all_exchanged {X = X} x y (p ∷ ps) (small, low, rest) = elim (all_exchanged x y ps rest) [
  | inl as_is ↦ elim (exchanged x y p.0 p.1 small low) [
    | inl same ↦ inl (ap (λ (l : List X). swap l p.0 p.1) as_is ∙ same)
    | inr other ↦ inr (ap (λ (l : List X). swap l p.0 p.1) as_is ∙ other)
  ]
  | inr turned ↦ elim (exchanged y x p.0 p.1 small low) [
    | inl same ↦ inr (ap (λ (l : List X). swap l p.0 p.1) turned ∙ same)
    | inr other ↦ inl (ap (λ (l : List X). swap l p.0 p.1) turned ∙ other)
  ]
]

not_by_shard : (records : List Subscriber) → IsSortedByKey imsi_of digits_cmp records → records ≡ by_shard → ⊥
not_by_shard records sorted are =
    let as_they_are : IsSortedByKey imsi_of digits_cmp by_shard = subst (IsSortedByKey imsi_of digits_cmp) are sorted in
    let less : true ≡ false = as_they_are 0 of_shard_0 (omega arith) (omega arith) in
    absurd cc

one_order : (records : List Subscriber) → InOrder imsi_of digits_cmp by_shard records → records ≡ by_imsi
one_order records ordered = elim (all_exchanged of_shard_0 of_shard_1 ordered.same.moves ordered.same.below) [
  | inl as_they_are ↦ absurd (not_by_shard records ordered.sorted (ordered.same.is ∙ as_they_are))
  | inr turned ↦ ordered.same.is ∙ turned
]

ascending : IsSortedByKey imsi_of digits_cmp by_imsi
ascending zero d low high = refl
ascending (suc k) d low high = absurd (omega (arith, high))

-- no two tie
apart_stay : (k : ℕ) (d : Subscriber) → k < 2
    → filter (tie imsi_of digits_cmp (get_or by_shard k d)) by_imsi ≡ filter (tie imsi_of digits_cmp (get_or by_shard k d)) by_shard
apart_stay zero d lt = refl
apart_stay (suc zero) d lt = refl
apart_stay (suc (suc k)) d lt = absurd (omega (arith, lt))

in_order : InOrder imsi_of digits_cmp by_shard by_imsi
in_order = record {
  same = record { moves = (0, 1) ∷ []; below = (ltb-true _ _ refl, ltb-true _ _ refl, tt); is = refl };
  sorted = ascending;
  stable = apart_stay;
}

-- ---- the file

abbrev file : List ℕ
file = header ++ line_1 ++ line_0

is_file : file ≡ saved_file hlr by_imsi
is_file = refl

is_record : (imsi msisdn : List ℕ) → AreSomeDigits imsi → AreImsiDigits imsi → AreSomeDigits msisdn → IsRecord (example.subscriber imsi msisdn)
unfolding IsDistinct
is_record imsi msisdn some count number = record {
  imsi = some;
  imsi_count = count;
  msisdn = number;
  codes = record { most = omega arith; different = tt };
  octets = tt;
  roam = tt;
  register = tt;
  place = record { purged = λ e. refl; left = λ e. refl; unmarked = λ e. refl };
}

is_read : AreApart by_imsi → File file (saved_contents hlr by_imsi)
is_read apart =
    let one = imsi_found (text "234150000000001") of_shard_1.imsi refl in
    let other = imsi_found (text "234150000000016") of_shard_0.imsi refl in
    saved_is_read hlr by_imsi (number_found (text "447700900100") hlr refl).1 (
      is_record of_shard_1.imsi of_shard_1.msisdn one.0.1 one.1 (number_found (text "447700900001") of_shard_1.msisdn refl).1,
      (is_record of_shard_0.imsi of_shard_0.msisdn other.0.1 other.1 (number_found (text "447700900000") of_shard_0.msisdn refl).1, tt),
    ) apart

is_saved : (shards : List Log) → records_in shards ≡ by_shard → SavesUnder hlr shards file
is_saved shards are =
    let ordered : InOrder imsi_of digits_cmp (records_in shards) by_imsi =
    subst (λ (rs : List Subscriber). InOrder imsi_of digits_cmp rs by_imsi) (sym are) in_order in
    record {
      records = by_imsi;
      ordered = ordered;
      file = is_file;
      again = λ apart. is_read (apart_in_order (records_in shards) by_imsi ordered.same apart);
    }

one_file : (shards : List Log) (written : List ℕ) → records_in shards ≡ by_shard → SavesUnder hlr shards written → written ≡ file
one_file shards written are saved =
    let ordered : InOrder imsi_of digits_cmp by_shard saved.records =
    subst (λ (rs : List Subscriber). InOrder imsi_of digits_cmp rs saved.records) are saved.ordered in
    saved.file ∙ ap (saved_file hlr) (one_order saved.records ordered) ∙ sym is_file

no_other : (shards : List Log) → records_in shards ≡ by_shard → SavesUnder hlr shards (header ++ line_0 ++ line_1) → ⊥
no_other shards are saved =
    let same : header ++ line_0 ++ line_1 ≡ file = one_file shards (header ++ line_0 ++ line_1) are saved in
    let digit : 49 ≡ 48 = ap (λ (l : List ℕ). get_or l 31 0) same in
    absurd (omega (arith, digit))

pub returns : goal.returns
returns c = record { saved = is_saved; alone = one_file; not_by_shard = no_other }
