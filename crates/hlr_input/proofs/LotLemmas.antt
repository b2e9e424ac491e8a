-- Octets that are written over others, sixteen at a time.
use Rattle.std.proofs.Common.{◌≡◌, ℕ, zero, suc, ◌+◌, ◌-◌, ◌*◌, ◌%◌, ◌<◌, ◌≤◌, true, List, ◌++◌, length, take, drop, slice_index, slice_set, sym, ap, ◌∙◌, arith, add-one, inl, inr, subst}
use Rattle.std.specs.Prelude.{Ok}
use Rattle.std.specs.List.{list_all}
use Rattle.std.proofs.lemmas.Bool.{cases_eq}
use Rattle.std.proofs.lemmas.List.{get_or-append_right, get_or-drop, get_or-set_other, get_or-set_same, get_or-take, get_or_append_left, length-drop, length-take-le, set-get_or}
use Rattle.std.proofs.Math.Seq.{take-append_seam, take-length}
use Rattle.hex.specs.Hex.{decode_of, decode_pairs, is_hex_digit}
use Rattle.hex.proofs.Pairs.{prepend, decode_start}
use Rattle.hlr_input.specs.Digits.{AreOctetsOf, octet_at, value_of}
use Rattle.hlr_input.proofs.ValueLaws.{pair_more, pairs_done}

-- ---- one more octet

pub put_next : (digits octets : List ℕ) (i octet : ℕ) → i < length octets → octet ≡ octet_at digits i
    → ((k : ℕ) → k < i → slice_index octets k ≡ octet_at digits k)
    → (k : ℕ) → k < i + 1 → slice_index (slice_set octets i octet) k ≡ octet_at digits k
put_next digits octets i octet room is before k lt = elim (cases_eq k i) [
  | inl same ↦ rw same (get_or-set_same octets i octet 0 room ∙ is)
  | inr other ↦ get_or-set_other octets i k octet 0 other ∙ before k (omega (arith, lt, other))
]

-- ---- sixteen more

-- the digits from a place on
pub rest_of : (digits : List ℕ) (from : ℕ) → take (length digits - from) (drop from digits) ≡ drop from digits
rest_of digits from = ap (λ (m : ℕ). take m (drop from digits)) (sym (length-drop from digits)) ∙ take-length (drop from digits)

digit_in_lot : (digits : List ℕ) (from i : ℕ) → i < 32 → slice_index (take 32 (drop from digits)) i ≡ slice_index digits (from + i)
digit_in_lot digits from i lt = get_or-take 32 (drop from digits) i 0 lt ∙ get_or-drop from digits i 0

octet_in_lot : (digits : List ℕ) (place j : ℕ) → j < 16 → octet_at (take 32 (drop (2 * place) digits)) j ≡ octet_at digits (place + j)
octet_in_lot digits place j lt =
    let high : slice_index (take 32 (drop (2 * place) digits)) (2 * j) ≡ slice_index digits (2 * (place + j)) =
    digit_in_lot digits (2 * place) (2 * j) (omega (arith, lt)) ∙ ap (slice_index digits) (omega arith) in
    let low : slice_index (take 32 (drop (2 * place) digits)) (2 * j + 1) ≡ slice_index digits (2 * (place + j) + 1) =
    digit_in_lot digits (2 * place) (2 * j + 1) (omega (arith, lt)) ∙ ap (slice_index digits) (omega arith) in
    λ i. value_of (high i) * 16 + value_of (low i)

pub put_lot : (digits octets lot rest : List ℕ) (place : ℕ) → place + 16 ≤ length octets → length lot ≡ 16
    → AreOctetsOf (take 32 (drop (2 * place) digits)) lot
    → (k : ℕ) → place ≤ k → k < place + 16 → slice_index (take place octets ++ (lot ++ rest)) k ≡ octet_at digits k
put_lot digits octets lot rest place room sixteen are k from to =
    let front : length (take place octets) ≡ place = length-take-le place octets (omega (arith, room)) in
    let within : k - place < 16 = omega (arith, from, to) in
    let back : place + (k - place) ≡ k = omega (arith, from) in
    get_or-append_right (take place octets) (lot ++ rest) place k 0 front from
    ∙ get_or_append_left lot rest 0 (k - place) (omega (arith, within, sixteen))
    ∙ are.each (k - place) (omega (arith, within, sixteen))
    ∙ octet_in_lot digits place (k - place) within
    ∙ ap (octet_at digits) back

-- ---- all of them

all_pairs : (digits octets : List ℕ) → list_all is_hex_digit digits ≡ true → AreOctetsOf digits octets → (i : ℕ) → i ≤ length octets
    → decode_pairs 0 digits ≡ prepend (take i octets) (decode_pairs (2 * i) (drop (2 * i) digits))
all_pairs digits octets all are zero le = decode_start digits octets
all_pairs digits octets all are (suc i) le =
    let within : i < length octets = omega (arith, le) in
    let so_far = all_pairs digits octets all are i (omega (arith, le)) in
    let next = pair_more digits octets i (slice_index octets i) (omega (arith, within, are.half)) within all (are.each i within) so_far in
    subst (λ (m : ℕ). decode_pairs 0 digits ≡ prepend (take m octets) (decode_pairs (2 * m) (drop (2 * m) digits))) (add-one i)
    (rw (set-get_or octets i 0) at next)

pub read_all : (digits octets : List ℕ) → length digits % 2 ≡ 0 → list_all is_hex_digit digits ≡ true → AreOctetsOf digits octets
    → decode_of digits ≡ Ok octets
read_all digits octets even all are =
    pairs_done digits octets (length octets) (omega arith) (omega (arith, are.half)) even
    (all_pairs digits octets all are (length octets) (omega arith))

-- as many octets as a list has are written over it
pub written_back : (octets items : List ℕ) (n : ℕ) → length octets ≡ n → take n (octets ++ drop (length octets) items) ≡ octets
written_back octets items n own =
    ap (λ (m : ℕ). take m (octets ++ drop (length octets) items)) (sym own)
    ∙ take-append_seam octets (drop (length octets) items)
