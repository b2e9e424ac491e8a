-- A frame's octets without a letter are those that the hexadecimal digits of the whole text stand for.
use Rattle.std.proofs.Common.{◌≡◌, ℕ, ◌+◌, ◌*◌, ◌%◌, Bool, true, false, List, [], ◌∷◌, ◌++◌, length, refl, sym, ap, ◌∙◌, arith, append_assoc, inl, inr}
use Rattle.std.specs.Prelude.{◌&&◌, ◌==◌, Option, Some, None, option_map, is_some, Result, Ok, Err}
use Rattle.std.specs.List.{list_any, list_all}
use Rattle.std.specs.Result.{result_ok}
use Rattle.std.specs.Char.{is_ascii_hexdigit}
use Rattle.std.proofs.lemmas.Bool.{cases_eq, or_parts, and_parts}
use Rattle.std.proofs.lemmas.List.Sums.{list_all-from_AllPass}
use Rattle.std.proofs.lemmas.List.{append-nil}
use Rattle.hex.specs.Hex.{decode_of, decode_pairs, hex_digit_value, is_hex_digit}
use Rattle.hex.proofs.HexLemmas.{decode_of-even, decode_of-odd, decode_pairs-ok}
use Rattle.hex.proofs.Pairs.{cons_byte}
use Rattle.hex.specs.declared.error.FromHexError.{FromHexError}
use Rattle.records.specs.Reading.{◌>>=◌, octet_in}
use Rattle.hlr_input.specs.declared.group.Group.TheVariants.{Octet}
use Rattle.hlr_input.specs.Octets.{octets_of_group}
use Rattle.hlr_input.specs.Reading.{stands, are_groups, octets_after}

pub digit_is_digit : (character : ℕ) → is_ascii_hexdigit character ≡ is_hex_digit character
digit_is_digit character = grind (arith)

-- ---- digits are no letters

no_letter_is_digit : (character : ℕ) → is_hex_digit character ≡ true → (character == 36) ≡ false
no_letter_is_digit character digit = grind (arith)

digits_have_none : (text : List ℕ) → list_all is_hex_digit text ≡ true → list_any (λ character. character == 36) text ≡ false
digits_have_none [] all = refl
digits_have_none (character ∷ more) all =
    let p = and_parts (is_hex_digit character) (list_all is_hex_digit more) all in
    rw (no_letter_is_digit character p.0, digits_have_none more p.1) refl

-- ---- whether they stand

two_stand : (known a b : ℕ) (first second : Option ℕ) → hex_digit_value a ≡ first → hex_digit_value b ≡ second
    → stands known (option_map (λ octet. Octet octet) (octet_in (a ∷ b ∷ []))) ≡ is_some first && is_some second
unfolding decode_pairs
two_stand known a b None second ea eb = rw ea refl
two_stand known a b (Some v) None ea eb = rw (ea, eb) refl
two_stand known a b (Some v) (Some w) ea eb = rw (ea, eb) refl

even_more : (more : List ℕ) (a b : ℕ) → length (a ∷ b ∷ more) % 2 ≡ length more % 2
even_more more a b = omega arith

regroup : (p q even all : Bool) → (p && q) && (even && all) ≡ even && (p && (q && all))
regroup true true even all = refl
regroup true false true all = refl
regroup true false false all = refl
regroup false q true all = refl
regroup false q false all = refl

groups_of_digits : (known : ℕ) (text : List ℕ) → list_any (λ character. character == 36) text ≡ false
    → are_groups known text ≡ (length text % 2 == 0) && list_all is_hex_digit text
unfolding are_groups
groups_of_digits known [] none = refl
groups_of_digits known (a ∷ []) none = refl
groups_of_digits known (a ∷ b ∷ more) none =
    let p = or_parts (a == 36) (list_any (λ character. character == 36) (b ∷ more)) none in
    let q = or_parts (b == 36) (list_any (λ character. character == 36) more) p.1 in
    rw (p.0, two_stand known a b (hex_digit_value a) (hex_digit_value b) refl refl, groups_of_digits known more q.1, even_more more a b)
    (regroup (is_hex_digit a) (is_hex_digit b) (length more % 2 == 0) (list_all is_hex_digit more))

-- an even number of digits are groups, whatever letters have an id
pub digits_stand : (known : ℕ) (text : List ℕ) → length text % 2 ≡ 0 → list_all is_hex_digit text ≡ true → true ≡ are_groups known text
digits_stand known text even all = sym (groups_of_digits known text (digits_have_none text all) ∙ rw (even, all) refl)

-- ---- what they stand for

-- the octets after those found so far
abbrev Behind : List (List ℕ) → List ℕ → ℕ → Type 0
Behind ids more i = (found : List ℕ) → octets_after ids found more ≡ option_map (λ octets. found ++ octets) (result_ok (decode_pairs i more))

byte_behind : (found : List ℕ) (byte : ℕ) (r : Result (List ℕ) FromHexError)
    → option_map (λ octets. (found ++ byte ∷ []) ++ octets) (result_ok r) ≡ option_map (λ octets. found ++ octets) (result_ok (cons_byte byte r))
byte_behind found byte (Ok octets) = ap (λ (all : List ℕ). Some all) (append_assoc found (byte ∷ []) octets)
byte_behind found byte (Err e) = refl

after_two : (ids : List (List ℕ)) (found : List ℕ) (a b i : ℕ) (more : List ℕ) (first second : Option ℕ) → hex_digit_value a ≡ first
    → hex_digit_value b ≡ second
    → Behind ids more (i + 2)
    → (option_map (λ octet. Octet octet) (octet_in (a ∷ b ∷ [])) >>= λ group. octets_of_group ids group >>= λ octets. octets_after ids (found ++ octets) more)
    ≡ option_map (λ octets. found ++ octets) (result_ok (decode_pairs i (a ∷ b ∷ more)))
unfolding decode_pairs
after_two ids found a b i more None second ea eb rest = rw ea refl
after_two ids found a b i more (Some v) None ea eb rest = rw (ea, eb) refl
after_two ids found a b i more (Some v) (Some w) ea eb rest =
    rw (ea, eb) (rest (found ++ (v * 16 + w) ∷ []) ∙ byte_behind found (v * 16 + w) (decode_pairs (i + 2) more))

behind_all : (ids : List (List ℕ)) (text : List ℕ) (i : ℕ) → list_any (λ character. character == 36) text ≡ false → Behind ids text i
unfolding octets_after decode_pairs
behind_all ids [] i none = λ found. ap (λ (all : List ℕ). Some all) (sym (append-nil found))
behind_all ids (a ∷ []) i none = λ found. refl
behind_all ids (a ∷ b ∷ more) i none = λ found.
    let p = or_parts (a == 36) (list_any (λ character. character == 36) (b ∷ more)) none in
    let q = or_parts (b == 36) (list_any (λ character. character == 36) more) p.1 in
    rw p.0 (after_two ids found a b i more (hex_digit_value a) (hex_digit_value b) refl refl (behind_all ids more (i + 2) q.1))

-- a text of pairs decodes from its first character
pairs_of : (text : List ℕ) (r : Result (List ℕ) FromHexError) → decode_pairs 0 text ≡ r → result_ok r ≡ result_ok (decode_of text)
pairs_of text (Ok octets) e =
    let even : length text % 2 ≡ 0 = let l = (decode_pairs-ok 0 text octets e).1 in omega (arith, l) in
    ap result_ok (sym e ∙ sym (decode_of-even text even))
pairs_of text (Err fault) e =
    elim (cases_eq (length text % 2) 1) [
      | inl odd ↦ rw (decode_of-odd text odd) refl
      | inr even ↦ rw (decode_of-even text (omega arith), e) refl
    ]

-- what the whole text decodes to is what its groups stand for
octets_of_digits : (ids : List (List ℕ)) (text : List ℕ) → list_any (λ character. character == 36) text ≡ false
    → octets_after ids [] text ≡ result_ok (decode_of text)
octets_of_digits ids text none =
    behind_all ids text 0 none [] ∙ same (result_ok (decode_pairs 0 text)) ∙ pairs_of text (decode_pairs 0 text) refl
  where
    same : (o : Option (List ℕ)) → option_map (λ octets. [] ++ octets) o ≡ o
    same None = refl
    same (Some octets) = refl

-- what decodes has no letter
decoded_has_none : (text octets : List ℕ) → decode_of text ≡ Ok octets → list_any (λ character. character == 36) text ≡ false
decoded_has_none text octets e =
    elim (cases_eq (length text % 2) 1) [
      | inl odd ↦ cc (e, decode_of-odd text odd)
      | inr even ↦
          let pairs = decode_pairs-ok 0 text octets (sym (decode_of-even text (omega arith)) ∙ e) in
          digits_have_none text (list_all-from_AllPass is_hex_digit text pairs.0)
    ]

pub digits_read : (text octets : List ℕ) → decode_of text ≡ Ok octets → (ids : List (List ℕ)) → Some octets ≡ octets_after ids [] text
digits_read text octets e ids = sym (octets_of_digits ids text (decoded_has_none text octets e) ∙ ap result_ok e)
