-- A text of digits is digits.
use Rattle.std.proofs.Common.{◌≡◌, ℕ, zero, suc, ◌+◌, ◌-◌, ◌*◌, ◌%◌, ◌^◌, ◌<◌, ◌≤◌, Bool, true, false, List, [], ◌∷◌, length, map, take, slice_index, refl, sym, ap, ◌∙◌, arith, leb, cond, subst}
use Rattle.std.specs.Prelude.{◌&&◌, nat_le, Some, None}
use Rattle.std.specs.Str.{IsAscii}
use Rattle.std.specs.List.{AllByRecursion, list_all}
use Rattle.std.proofs.lemmas.Bool.{and_parts, leb-true, le-leb}
use Rattle.std.proofs.lemmas.List.{length-map}
use Rattle.hlr_types.specs.Digits.{AreSomeDigits}
use Rattle.hlr_types.specs.Words.{packed, word_of}
use Rattle.hlr_types.proofs.PackLemmas.{packed_more, number_small, shifted_whole, IsWordOf, is_word_of}
use Rattle.hlr_types.specs.DigitTexts.{is_digit, digits_in, text_of, AreTextForms, IsText}

pub is_digit_bounds : (b : ℕ) → is_digit b ≡ true → (48 ≤ b) × (b ≤ 57)
is_digit_bounds b e = let p = and_parts (nat_le 48 b) (nat_le b 57) e in (leb-true 48 b p.0, leb-true b 57 p.1)

pub decimal : (text : List ℕ) → list_all is_digit text ≡ true → AllByRecursion (λ d. d < 10) (map (λ b. b - 48) text)
decimal [] e = tt
decimal (b ∷ bs) e =
    let p = and_parts (is_digit b) (list_all is_digit bs) e in
    let q = is_digit_bounds b p.0 in
    (omega arith, decimal bs p.1)

pub are_some_digits : (text : List ℕ) → 0 < length text → length text ≤ 16 → list_all is_digit text ≡ true → AreSomeDigits (map (λ b. b - 48) text)
are_some_digits text some most e = record {
  some = omega (arith, length-map text (λ b. b - 48));
  most = omega
      (arith, length-map text (λ b. b - 48));
  each = decimal text e;
}

-- A character of a text of digits, and the digit that it is.
pub character_bounds : (i : ℕ) (text : List ℕ) → i < length text → list_all is_digit text ≡ true → (48 ≤ slice_index text i) × (slice_index text i ≤ 57)
character_bounds i [] len e = absurd (omega arith)
character_bounds zero (b ∷ bs) len e = is_digit_bounds b (and_parts (is_digit b) (list_all is_digit bs) e).0
character_bounds (suc i) (b ∷ bs) len e = character_bounds i bs (omega (arith, len)) (and_parts (is_digit b) (list_all is_digit bs) e).1

pub digit_at : (i : ℕ) (text : List ℕ) → i < length text → slice_index (map (λ b. b - 48) text) i ≡ slice_index text i - 48
digit_at i [] len = absurd (omega arith)
digit_at zero (b ∷ bs) len = refl
digit_at (suc i) (b ∷ bs) len = digit_at i bs (omega (arith, len))

pub record IsCharacter (i number : ℕ) (text : List ℕ) : Type 0 where
  pub least : 48 ≤ slice_index text i
  pub most : slice_index text i ≤ 57
  pub small : number < 16 ^ 15
  pub next : number * 16 + (slice_index text i - 47) ≡ packed (suc i) (take (suc i) (map (λ b. b - 48) text))

pub character : (i number : ℕ) (text : List ℕ) → 0 < length text → length text ≤ 16 → list_all is_digit text ≡ true
    → number ≡ packed i (take i (map (λ b. b - 48) text)) → i < length text → IsCharacter i number text
character i number text some most e is len =
    let ds = map (λ b. b - 48) text in
    let are = are_some_digits text some most e in
    let same : length ds ≡ length text = length-map text (λ b. b - 48) in
    let within : i < length ds = omega (arith, same, len) in
    let bounds = character_bounds i text len e in
    let more = packed_more i ds within in
    record {
      least = bounds.0;
      most = bounds.1;
      small = number_small i number ds are is within;
      next = omega (arith, more, is, digit_at i text len, bounds.0);
    }

pub word_of_text : (i number : ℕ) (text : List ℕ) → 0 < length text → length text ≤ 16 → list_all is_digit text ≡ true
    → number ≡ packed i (take i (map (λ b. b - 48) text)) → i ≤ length text → length text ≤ i
    → IsWordOf (number * 2 ^ (64 - 4 * length text) % 2 ^ 64) (map (λ b. b - 48) text)
word_of_text i number text some most e is le ge =
    let ds = map (λ b. b - 48) text in
    let are = are_some_digits text some most e in
    let same : length ds ≡ length text = length-map text (λ b. b - 48) in
    let whole : number * 2 ^ (64 - 4 * length text) % 2 ^ 64 ≡ word_of ds =
    ap (λ n. number * 2 ^ (64 - 4 * n) % 2 ^ 64) (sym same) ∙ shifted_whole i number ds are is (omega (arith, same, le)) (omega (arith, same, ge)) in
    is_word_of _ ds are whole

pub ruleset text_steps = (character, word_of_text)

pub minus-plus : (ds : List ℕ) → map (λ octet. octet - 48) (map (λ d. d + 48) ds) ≡ ds
minus-plus [] = refl
minus-plus (d ∷ ds) =
    let here : (d + 48) - 48 ≡ d = omega arith in
    let rest = minus-plus ds in
    cc

pub plus-minus : (text : List ℕ) → list_all is_digit text ≡ true → map (λ d. d + 48) (map (λ octet. octet - 48) text) ≡ text
plus-minus [] e = refl
plus-minus (b ∷ bs) e =
    let p = and_parts (is_digit b) (list_all is_digit bs) e in
    let q = is_digit_bounds b p.0 in
    let here : (b - 48) + 48 ≡ b = omega arith in
    let rest = plus-minus bs p.1 in
    cc

pub printed_digit : (d : ℕ) → d < 10 → is_digit (d + 48) ≡ true
printed_digit d small =
    let low : leb 48 (d + 48) ≡ true = le-leb _ _ (omega arith) in
    let high : leb (d + 48) 57 ≡ true = le-leb _ _ (omega (arith, small)) in
    rw (low, high) refl

text_is_digits : (ds : List ℕ) → AllByRecursion (λ d. d < 10) ds → list_all is_digit (map (λ d. d + 48) ds) ≡ true
text_is_digits [] h = refl
text_is_digits (d ∷ ds) h = rw (printed_digit d h.0) (text_is_digits ds h.1)

pub is_ascii : (ds : List ℕ) → AreSomeDigits ds → IsAscii (text_of ds)
is_ascii ds some = each ds some.each
  where
    each : (ds : List ℕ) → AllByRecursion (λ d. d < 10) ds → IsAscii (text_of ds)
    each [] h i = omega arith
    each (d ∷ ds) h zero = omega (arith, h.0)
    each (d ∷ ds) h (suc i) = each ds h.1 i

printed : (ds : List ℕ) → AreSomeDigits ds → digits_in (text_of ds) ≡ Some ds
printed ds some =
    let len = length-map ds (λ d. d + 48) in
    let low : leb 1 (length (map (λ d. d + 48) ds)) ≡ true = le-leb _ _ (omega (arith, len, some.some)) in
    let high : leb (length (map (λ d. d + 48) ds)) 16 ≡ true = le-leb _ _ (omega (arith, len, some.most)) in
    rw (low, high, text_is_digits ds some.each, minus-plus ds) refl

read-in : (text ds : List ℕ) (low high each : Bool) → leb 1 (length text) ≡ low → leb (length text) 16 ≡ high → list_all is_digit text ≡ each
    → cond (low && high && each) (Some (map (λ octet. octet - 48) text)) None ≡ Some ds → IsText text ds
read-in text ds true true true l h a e =
    let same : map (λ octet. octet - 48) text ≡ ds = cc in
    let some = are_some_digits text (leb-true _ _ l) (leb-true _ _ h) a in
    record { some = subst AreSomeDigits same some; printed = sym (ap text_of (sym same) ∙ plus-minus text a) }
read-in text ds true true false l h a e = absurd cc
read-in text ds true false each l h a e = absurd cc
read-in text ds false high each l h a e = absurd cc

pub text_found : (text ds : List ℕ) → digits_in text ≡ Some ds → IsText text ds
text_found text ds e = read-in text ds (leb 1 (length text)) (leb (length text) 16) (list_all is_digit text) refl refl refl e

pub text_again : (text ds : List ℕ) → IsText text ds → digits_in text ≡ Some ds
text_again text ds is = ap digits_in is.printed ∙ printed ds is.some

pub ruleset text_laws = (text_found, text_again)

pub are_text_forms : AreTextForms
are_text_forms = record {
  printed_is_read = printed;
  read_is_printed = λ text ds e. sym (text_found text ds e).printed;
}

pub ruleset text_forms = (are_text_forms)
