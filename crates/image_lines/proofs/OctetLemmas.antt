-- Octets in upper case hexadecimal.
use Rattle.std.proofs.Common.{◌≡◌, ℕ, zero, suc, ◌+◌, ◌*◌, ◌/◌, ◌%◌, ◌<◌, Bool, true, false, cond, List, [], ◌∷◌, length, slice_index, refl, sym, ap, subst, ◌∙◌, arith, inl, inr}
use Rattle.std.specs.Prelude.{◌⊎◌, ◌&&◌, ◌==◌, nat_le, nat_lt, Option, Some, None, unwrap_or, Result, Ok, Err, codes}
use Rattle.std.specs.List.{list_all}
use Rattle.std.specs.Result.{result_ok}
use Rattle.std.proofs.lemmas.Bool.{and_parts, leb-true, le-leb, ltb-true, eqb-true, cond-true}
use Rattle.hex.specs.Hex.{IsBytes, decode_pairs, decode_sized, encode_upper, encode_with, hex_digit_value, pair_value, upper_digits}
use Rattle.hex.specs.declared.error.FromHexError.{FromHexError}
use Rattle.hex.proofs.HexLemmas.{decode_of-encode_upper, decode_of-even, decode_pairs-ok, decode_sized-ok, decode_sized-twice, length-encode_with}
use Rattle.hex.proofs.Pairs.{cons_byte, decode_pairs-ok_pair}
use Rattle.octets.specs.Octets.{AreOctets}
use Rattle.records.specs.Reading.{◌>>=◌, is_text}
use Rattle.records.proofs.AgainFields.{octets_again as decoded_again}
use Rattle.records.proofs.FieldLaws.{bind_some, chosen, guard_some, is_text_true}
use Rattle.records.proofs.OctetLemmas.{bytes}
use Rattle.image_lines.specs.Lines.{AreFour, IfKnown, IsRemote, octets_text}
use Rattle.image_lines.specs.Reading.{few_octets_in, is_upper, lmsi_in, octets_in, remote_in}

-- ---- characters, by computing

abbrev all_below : (ℕ → Bool) → ℕ → Bool
all_below test zero = true
all_below test (suc n) = test n && all_below test n

below_at : (test : ℕ → Bool) (n k : ℕ) → all_below test n ≡ true → k < n → test k ≡ true
below_at test zero k all lt = absurd (omega arith)
below_at test (suc n) k all lt =
    let p = and_parts (test n) (all_below test n) all in
    elim (cases k n lt) [
      | inl below ↦ below_at test n k p.1 below
      | inr top ↦ subst (λ (m : ℕ). test m ≡ true) (sym top) p.0
    ]
  where
    cases : (k n : ℕ) → k < suc n → (k < n) ⊎ (k ≡ n)
    cases k n lt = grind arith

-- the digit of the character's value is the character
abbrev is_digit_of : ℕ → Bool
is_digit_of character = cond (is_upper character) (slice_index upper_digits (unwrap_or (hex_digit_value character) 99) == character) true

abbrev is_below_16 : ℕ → Bool
is_below_16 character = cond (is_upper character) (nat_lt (unwrap_or (hex_digit_value character) 99) 16) true

upper_below : (character : ℕ) → is_upper character ≡ true → character < 71
upper_below character e = grind arith

-- the value of an upper case digit
record Upper (character : ℕ) : Type 0 where
  value : ℕ
  is : hex_digit_value character ≡ Some value
  small : value < 16
  digit : slice_index upper_digits value ≡ character

some_value : (o : Option ℕ) → unwrap_or o 99 < 16 → o ≡ Some (unwrap_or o 99)
some_value (Some v) lt = refl
some_value None lt = absurd (omega arith)

upper : (character : ℕ) → is_upper character ≡ true → Upper character
upper character e =
    let lt = upper_below character e in
    let value = unwrap_or (hex_digit_value character) 99 in
    let small = ltb-true value 16 (sym (cond-true (is_upper character) (nat_lt value 16) true e) ∙ below_at is_below_16 71 character refl lt) in
    let digit = eqb-true (slice_index upper_digits value) character
    (sym (cond-true (is_upper character) (slice_index upper_digits value == character) true e) ∙ below_at is_digit_of 71 character refl lt) in
    record { value = value; is = some_value (hex_digit_value character) small; small = small; digit = digit }

digit_upper : (value : ℕ) → value < 16 → is_upper (slice_index upper_digits value) ≡ true
digit_upper value lt = below_at (λ v. is_upper (slice_index upper_digits v)) 16 value refl lt

-- ---- pairs

two_digits : (a b i va vb : ℕ) → hex_digit_value a ≡ Some va → hex_digit_value b ≡ Some vb → pair_value a b i ≡ Ok (va * 16 + vb)
two_digits a b i va vb ea eb = rw (ea, eb) refl

cons_found : (v : ℕ) (octets : List ℕ) (r : Result (List ℕ) FromHexError) → cons_byte v r ≡ Ok octets → (more : List ℕ) × (r ≡ Ok more) × (octets ≡ v ∷ more)
cons_found v octets (Ok more) e = (more, refl, cc)
cons_found v octets (Err fault) e = absurd cc

one_spelled : (a b va vb : ℕ) (octets more : List ℕ) → octets ≡ (va * 16 + vb) ∷ more → vb < 16 → slice_index upper_digits va ≡ a
    → slice_index upper_digits vb ≡ b → encode_upper octets ≡ a ∷ b ∷ encode_upper more
unfolding encode_with
one_spelled a b va vb octets more is low ea eb =
    let first : (va * 16 + vb) / 16 ≡ va = omega arith in
    let second : (va * 16 + vb) % 16 ≡ vb = omega arith in
    rw (is, first, second, ea, eb) refl

pub pairs_found : (i : ℕ) (field octets : List ℕ) → list_all is_upper field ≡ true → decode_pairs i field ≡ Ok octets → field ≡ encode_upper octets
unfolding encode_with decode_pairs
pairs_found i [] octets all e =
    let none : [] ≡ octets = cc e in
    subst (λ (os : List ℕ). [] ≡ encode_upper os) none refl
pairs_found i (a ∷ []) octets all e = absurd (cc e)
pairs_found i (a ∷ b ∷ rest) octets all e =
    let p = and_parts (is_upper a) (list_all is_upper (b ∷ rest)) all in
    let q = and_parts (is_upper b) (list_all is_upper rest) p.1 in
    let ua = upper a p.0 in
    let ub = upper b q.0 in
    let pair = two_digits a b i ua.value ub.value ua.is ub.is in
    let r = cons_found (ua.value * 16 + ub.value) octets (decode_pairs (i + 2) rest)
    (sym (decode_pairs-ok_pair i a b (ua.value * 16 + ub.value) rest pair) ∙ e) in
    let more = pairs_found (i + 2) rest r.0 q.1 r.1 in
    ap (λ (t : List ℕ). a ∷ b ∷ t) more ∙ sym (one_spelled a b ua.value ub.value octets r.0 r.2 ub.small ua.digit ub.digit)

pub encoded_upper : (octets : List ℕ) → AreOctets octets → list_all is_upper (encode_upper octets) ≡ true
unfolding encode_with
encoded_upper [] are = refl
encoded_upper (o ∷ os) are =
    let small = are.0 in
    let high : o / 16 < 16 = omega arith in
    let low : o % 16 < 16 = omega arith in
    rw (digit_upper (o / 16) high, digit_upper (o % 16) low) (encoded_upper os are.1)

octets_from : (octets : List ℕ) → IsBytes octets → AreOctets octets
octets_from [] are = tt
octets_from (o ∷ os) are = (are 0, octets_from os (λ i. are (suc i)))

-- ---- the reading

ok_some : (r : Result (List ℕ) FromHexError) (octets : List ℕ) → result_ok r ≡ Some octets → r ≡ Ok octets
ok_some (Ok x) octets e = let p : x ≡ octets = cc in ap (λ (os : List ℕ). Ok os) p
ok_some (Err fault) octets e = absurd cc

pub record OctetsFound (count : ℕ) (field octets : List ℕ) : Type 0 where
  pub spelled : field ≡ encode_upper octets
  pub long : length octets ≡ count
  pub each : AreOctets octets

pub octets_found : (count : ℕ) (field octets : List ℕ) → octets_in count field ≡ Some octets → OctetsFound count field octets
unfolding octets_in
octets_found count field octets e =
    let g = guard_some (list_all is_upper field) (result_ok (decode_sized field count)) octets e in
    let sized = ok_some (decode_sized field count) octets g.1 in
    let len = decode_sized-ok field count octets sized in
    let pairs : decode_pairs 0 field ≡ Ok octets =
    sym (decode_of-even field (omega (arith, len))) ∙ sym (decode_sized-twice field count len) ∙ sized in
    let facts = decode_pairs-ok 0 field octets pairs in
    let twice = facts.1 in
    record {
      spelled = pairs_found 0 field octets g.0 pairs;
      long = omega (arith, len, twice);
      each = octets_from octets facts.2;
    }

pub octets_again : (count : ℕ) (octets : List ℕ) → AreOctets octets → length octets ≡ count → octets_in count (encode_upper octets) ≡ Some octets
unfolding octets_in
octets_again count octets are long =
    cond-true (list_all is_upper (encode_upper octets)) (result_ok (decode_sized (encode_upper octets) count)) None (encoded_upper octets are)
    ∙ ap result_ok (decoded_again (encode_upper octets) count octets (decode_of-encode_upper octets (bytes octets are)) long)

pub four_found : (field octets : List ℕ) → octets_in 4 field ≡ Some octets → (field ≡ encode_upper octets) × AreFour octets
four_found field octets e = let f = octets_found 4 field octets e in (f.spelled, record { four = f.long; each = f.each })

pub four_again : (octets : List ℕ) → AreFour octets → octets_in 4 (encode_upper octets) ≡ Some octets
four_again octets are = octets_again 4 octets are.each are.four

few_found : (field octets : List ℕ) → few_octets_in field ≡ Some octets → (field ≡ encode_upper octets) × IsRemote octets
unfolding few_octets_in
few_found field octets e =
    let half = length field / 2 in
    let g = guard_some (nat_le 1 half && nat_le half 4) (octets_in half field) octets e in
    let p = and_parts (nat_le 1 half) (nat_le half 4) g.0 in
    let f = octets_found half field octets g.1 in
    let long = f.long in
    let least = leb-true 1 half p.0 in
    let most = leb-true half 4 p.1 in
    (f.spelled, record { count = record { some = omega (arith, long, least); most = omega (arith, long, most) }; each = f.each })

few_again : (octets : List ℕ) → IsRemote octets → few_octets_in (encode_upper octets) ≡ Some octets
unfolding few_octets_in
few_again octets is =
    let len = length-encode_with upper_digits octets in
    let half : length (encode_upper octets) / 2 ≡ length octets = omega (arith, len) in
    let least : nat_le 1 (length octets) ≡ true = le-leb 1 (length octets) is.count.some in
    let most : nat_le (length octets) 4 ≡ true = le-leb (length octets) 4 is.count.most in
    rw (half, least, most) (octets_again (length octets) octets is.each refl)

-- ---- `-` if there are none

abbrev known_by : (List ℕ → Option (List ℕ)) → List ℕ → Option (Option (List ℕ))
known_by read field = cond (is_text field (codes "-")) (Some None) (read field >>= λ octets. Some (Some octets))

no_dash : (octets : List ℕ) → is_text (encode_upper octets) (codes "-") ≡ false
unfolding encode_with
no_dash [] = refl
no_dash (o ∷ os) = no_more (slice_index upper_digits (o / 16) == 45)
  where
    no_more : (b : Bool) → (b && false) ≡ false
    no_more true = refl
    no_more false = refl

some_of : (octets : List ℕ) (known : Option (List ℕ)) → Some (Some octets) ≡ Some known → Some octets ≡ known
some_of octets known e = cc

known_found : (read : List ℕ → Option (List ℕ)) (Is : List ℕ → Type 0)
    → ((field octets : List ℕ) → read field ≡ Some octets → (field ≡ encode_upper octets) × Is octets)
    → (field : List ℕ) (known : Option (List ℕ)) → known_by read field ≡ Some known → (field ≡ octets_text known) × IfKnown Is known
known_found read Is found field known e =
    elim (chosen (is_text field (codes "-")) None (read field >>= λ octets. Some (Some octets)) known e) [
      | inl p ↦ subst (λ (k : Option (List ℕ)). (field ≡ octets_text k) × IfKnown Is k) p.1 (is_text_true field (codes "-") p.0, tt)
      | inr p ↦
          let b = bind_some (read field) (λ octets. Some (Some octets)) known p.1 in
          subst (λ (k : Option (List ℕ)). (field ≡ octets_text k) × IfKnown Is k) (some_of b.0 known b.2) (found field b.0 b.1)
    ]

known_again : (read : List ℕ → Option (List ℕ)) (Is : List ℕ → Type 0) → ((octets : List ℕ) → Is octets → read (encode_upper octets) ≡ Some octets)
    → (known : Option (List ℕ)) → IfKnown Is known → known_by read (octets_text known) ≡ Some known
known_again read Is again None is = refl
known_again read Is again (Some octets) is = rw (no_dash octets, again octets is) refl

pub remote_found : (field : List ℕ) (remote : Option (List ℕ)) → remote_in field ≡ Some remote → (field ≡ octets_text remote) × IfKnown IsRemote remote
unfolding remote_in
remote_found field remote e = known_found few_octets_in IsRemote few_found field remote e

pub remote_again : (remote : Option (List ℕ)) → IfKnown IsRemote remote → remote_in (octets_text remote) ≡ Some remote
unfolding remote_in
remote_again remote is = known_again few_octets_in IsRemote few_again remote is

pub lmsi_found : (field : List ℕ) (lmsi : Option (List ℕ)) → lmsi_in field ≡ Some lmsi → (field ≡ octets_text lmsi) × IfKnown AreFour lmsi
unfolding lmsi_in
lmsi_found field lmsi e = known_found (octets_in 4) AreFour four_found field lmsi e

pub lmsi_again : (lmsi : Option (List ℕ)) → IfKnown AreFour lmsi → lmsi_in (octets_text lmsi) ≡ Some lmsi
unfolding lmsi_in
lmsi_again lmsi is = known_again (octets_in 4) AreFour four_again lmsi is
