-- Hexadecimal digits that are read one at a time stand for what they stand for in pairs.
use Rattle.std.proofs.Common.{◌≡◌, ℕ, ◌+◌, ◌-◌, ◌*◌, ◌%◌, ◌<◌, ◌≤◌, true, List, [], ◌∷◌, length, take, drop, slice_index, slice_set, refl, sym, ap, ◌∙◌, arith, inl, inr}
use Rattle.std.specs.Prelude.{Option, Some, None, is_some, unwrap_or, slice_index_or, Ok, Err}
use Rattle.std.specs.List.{list_all}
use Rattle.std.proofs.lemmas.Bool.{cases_Bool, false≢true}
use Rattle.std.proofs.lemmas.List.Folds.{list_all_at}
use Rattle.hex.specs.Hex.{decode_of, decode_pairs, decode_sized, hex_digit_value, is_hex_digit, pair_value}
use Rattle.hex.proofs.HexLemmas.{decode_of-even}
use Rattle.hex.proofs.Pairs.{prepend, decode_step, decode_done}
use Rattle.hex.specs.declared.error.FromHexError.{FromHexError}
use Rattle.hlr_input.specs.Digits.{value_of}

pub value_below : (digit : ℕ) → value_of digit < 16
value_below digit = grind (arith)

-- ---- a digit after a 0, which is the character 48

value_found : (digit : ℕ) (octets : List ℕ) (o : Option ℕ) → hex_digit_value digit ≡ o → decode_sized (48 ∷ digit ∷ []) 1 ≡ Ok octets
    → slice_index_or octets 0 0 ≡ unwrap_or o 0
unfolding decode_pairs
value_found digit octets (Some value) e is =
    let same : ((48 - 48) * 16 + value) ∷ [] ≡ octets = cc (rw e at is) in
    rw (← same) (omega arith)
value_found digit octets None e is = absurd (cc (rw e at is))

pub value_read : (digit : ℕ) (octets : List ℕ) → decode_sized (48 ∷ digit ∷ []) 1 ≡ Ok octets → slice_index_or octets 0 0 ≡ value_of digit
value_read digit octets is = value_found digit octets (hex_digit_value digit) refl is

value_lacking : (digit : ℕ) (fault : FromHexError) (o : Option ℕ) → hex_digit_value digit ≡ o → decode_sized (48 ∷ digit ∷ []) 1 ≡ Err fault
    → 0 ≡ unwrap_or o 0
unfolding decode_pairs
value_lacking digit fault (Some value) e is = absurd (cc (rw e at is))
value_lacking digit fault None e is = refl

pub value_none : (digit : ℕ) (fault : FromHexError) → decode_sized (48 ∷ digit ∷ []) 1 ≡ Err fault → 0 ≡ value_of digit
value_none digit fault is = value_lacking digit fault (hex_digit_value digit) refl is

-- ---- a pair

two_values : (a b i : ℕ) (first second : Option ℕ) → hex_digit_value a ≡ first → hex_digit_value b ≡ second → is_some first ≡ true → is_some second ≡ true
    → pair_value a b i ≡ Ok (unwrap_or first 0 * 16 + unwrap_or second 0)
two_values a b i (Some v) (Some w) ea eb ha hb = rw (ea, eb) refl
two_values a b i None second ea eb ha hb = absurd (false≢true ha)
two_values a b i (Some v) None ea eb ha hb = absurd (false≢true hb)

digit_at : (digits : List ℕ) (i : ℕ) → i < length digits → list_all is_hex_digit digits ≡ true → is_hex_digit (slice_index digits i) ≡ true
digit_at digits i lt all = elim (cases_Bool (is_hex_digit (slice_index digits i))) [
  | inl is ↦ is
  | inr other ↦ absurd (false≢true (sym (list_all_at is_hex_digit digits i 0 lt other) ∙ all))
]

pub pair_more : (digits octets : List ℕ) (i octet : ℕ) → 2 * i + 1 < length digits → i < length octets → list_all is_hex_digit digits ≡ true
    → octet ≡ value_of (slice_index digits (2 * i)) * 16 + value_of (slice_index digits (2 * i + 1))
    → decode_pairs 0 digits ≡ prepend (take i octets) (decode_pairs (2 * i) (drop (2 * i) digits))
    → decode_pairs 0 digits ≡ prepend (take (i + 1) (slice_set octets i octet)) (decode_pairs (2 * (i + 1)) (drop (2 * (i + 1)) digits))
pair_more digits octets i octet fits room all is so_far =
    let high = digit_at digits (2 * i) (omega arith) all in
    let low = digit_at digits (2 * i + 1) fits all in
    let two = two_values (slice_index digits (2 * i)) (slice_index digits (2 * i + 1)) (2 * i) _ _ refl refl high low in
    decode_step digits octets i octet fits room (two ∙ ap Ok (sym is)) so_far

pub pairs_done : (digits octets : List ℕ) (i : ℕ) → length octets ≤ i → length digits ≤ 2 * i → length digits % 2 ≡ 0
    → decode_pairs 0 digits ≡ prepend (take i octets) (decode_pairs (2 * i) (drop (2 * i) digits))
    → decode_of digits ≡ Ok octets
pairs_done digits octets i most fits even so_far = decode_of-even digits even ∙ decode_done digits octets i most fits so_far
