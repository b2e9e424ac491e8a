-- Numbers in decimal, with a sign.
use Rattle.std.proofs.Common.{◌≡◌, ◌≢◌, ℕ, zero, suc, ℤ, pos, negsuc, neg_ℤ, ◌<◌, ◌≤◌, ◌^◌, Bool, true, false, cond, List, [], ◌∷◌, length, drop, get_or, refl, sym, ap, subst, ◌∙◌, arith, inl, inr}
use Rattle.std.specs.Prelude.{◌⊎◌, ◌&&◌, ◌==◌, Option, Some, None, IfSome, Result, Ok, Err, FitsSigned}
use Rattle.std.specs.Int.{w8}
use Rattle.std.specs.Fmt.{decimal, signed_decimal}
use Rattle.std.specs.Str.{IsUtf8}
use Rattle.std.specs.Str.Parse.{AllDigits, digits_value, signed_digits_value, starts_with_minus, without_leading_plus, ParsesSigned}
use Rattle.std.proofs.lemmas.Bool.{and_parts, and_from, ltb-true, lt-ltb, false≢true, eqb-true, eq-eqb, ne_eqb, cases_Bool, cond-false, cond-true}
use Rattle.std.proofs.lemmas.Option.{cond_some}
use Rattle.std.proofs.lemmas.Str.Parse.{parse_signed_minus, parse_signed_plain, without_leading_plus_none}
use Rattle.std.proofs.lemmas.Fmt.{decimal_is_IsNumeral, decimal_digit, first_decimal, parse-signed_decimal, IsAscii-signed}
use Rattle.std.proofs.lemmas.Str.{IsUtf8-from_ascii}
use lib.Signed.{mag}
use Rattle.records.specs.Reading.{is_text}
use Rattle.records.proofs.FieldLaws.{is_text_true}
use Rattle.image_lines.specs.Reading.{is_plain, is_plain_signed, is_small, signed_if, signed_in}
use Rattle.image_lines.proofs.NumberLemmas.{own, is_text_same, plain_facts, plain_value, positive_plain, decimal_plain}

-- ---- bounds

wide : (n : ℕ) → n < 2 ^ 7 → n < 2 ^ 63
wide n lt = let low : 2 ^ 7 < 2 ^ 63 = omega arith in omega (arith, lt, low)

word : (n : ℕ) → n < 2 ^ 7 → suc n < 2 ^ 64
word n lt = let low : 2 ^ 7 < 2 ^ 63 = omega arith in let high : 2 ^ 63 < 2 ^ 64 = omega arith in omega (arith, lt, low, high)

small_fits : (z : ℤ) → is_small z ≡ true → FitsSigned w8 z
small_fits (pos n) e = record { sfits = ltb-true n 128 e }
small_fits (negsuc n) e = record { sfits = ltb-true n 128 e }

fits_small : (z : ℤ) → FitsSigned w8 z → is_small z ≡ true
fits_small (pos n) f = lt-ltb n 128 f.sfits
fits_small (negsuc n) f = lt-ltb n 128 f.sfits

-- ---- plain texts with a sign

plain_signed : (text : List ℕ) → is_plain text ≡ true → is_plain_signed text ≡ true
plain_signed [] e = e
plain_signed (a ∷ []) e = e
plain_signed (a ∷ b ∷ more) e =
    let facts = plain_facts (a ∷ b ∷ more) e in
    let sign = facts.no_sign in
    cond-false (a == 45) (cond (b == 48) false (is_plain (b ∷ more))) (is_plain (a ∷ b ∷ more)) (ne_eqb a 45 (λ minus. omega (arith, sign, minus))) ∙ e

plain_minus : (digits : List ℕ) → is_plain digits ≡ true → get_or digits 0 0 ≢ 48 → is_plain_signed (45 ∷ digits) ≡ true
plain_minus [] e other = absurd (false≢true e)
plain_minus (a ∷ more) e other = cond-false (a == 48) false (is_plain (a ∷ more)) (ne_eqb a 48 other) ∙ e

-- the sign and the digits of a plain text, or its digits
record HasMinus (text : List ℕ) : Type 0 where
  digits : List ℕ
  whole : text ≡ 45 ∷ digits
  plain : is_plain digits ≡ true
  positive : get_or digits 0 0 ≢ 48

abbrev Plain : List ℕ → Type 0
Plain text = HasMinus text ⊎ (is_plain text ≡ true)

minus_of : (b : Bool) (p : Bool) → cond b false p ≡ true → (b ≡ false) × (p ≡ true)
minus_of true p e = absurd (false≢true e)
minus_of false p e = (refl, e)

plain_cases : (text : List ℕ) → is_plain_signed text ≡ true → Plain text
plain_cases [] e = inr e
plain_cases (a ∷ []) e = inr e
plain_cases (a ∷ b ∷ more) e =
    elim (cases_Bool (a == 45)) [
      | inl minus ↦
          let rest : cond (b == 48) false (is_plain (b ∷ more)) ≡ true =
          sym (cond-true (a == 45) (cond (b == 48) false (is_plain (b ∷ more))) (is_plain (a ∷ b ∷ more)) minus) ∙ e in
          let p = minus_of (b == 48) (is_plain (b ∷ more)) rest in
          inl (record {
            digits = b ∷ more;
            whole = ap (λ (x : ℕ). x ∷ b ∷ more) (eqb-true a 45 minus);
            plain = p.1;
            positive = λ is. false≢true (sym p.0 ∙ eq-eqb b 48 is);
          })
      | inr other ↦ inr (sym (cond-false (a == 45) (cond (b == 48) false (is_plain (b ∷ more))) (is_plain (a ∷ b ∷ more)) other) ∙ e)
    ]

-- ---- what `parse` answers

pub spelled_plain : (text : List ℕ) (z : ℤ) → FitsSigned w8 z → text ≡ signed_decimal z → is_plain_signed text ≡ true
spelled_plain text (pos n) f e = rw e (plain_signed (decimal n) (decimal_plain n (omega (arith, word n f.sfits))))
spelled_plain text (negsuc n) f e =
    let lt = word n f.sfits in
    let first = first_decimal (suc n) (omega arith) lt in
    rw e (plain_minus (decimal (suc n)) (positive_plain (suc n) (omega arith) lt) (λ is. omega (arith, first, is)))

pub spelled_utf8 : (text : List ℕ) (z : ℤ) → FitsSigned w8 z → text ≡ signed_decimal z → IsUtf8 text
spelled_utf8 text z f e = subst IsUtf8 (sym e) (IsUtf8-from_ascii (signed_decimal z) (IsAscii-signed z (wide (mag z) f.sfits)))

pub spelled_parsed : {E : Type 0} (text : List ℕ) (z : ℤ) (r : Result ℤ E) → FitsSigned w8 z → text ≡ signed_decimal z → ParsesSigned w8 10 text r → r ≡ Ok z
spelled_parsed text z r f e parsed = parse-signed_decimal w8 z text r f (wide (mag z) f.sfits) e parsed

pub ok_same : {E : Type 0} (r : Result ℤ E) (x y : ℤ) → r ≡ Ok x → r ≡ Ok y → x ≡ y
ok_same (Ok z) x y e f = cc
ok_same (Err z) x y e f = absurd cc

-- digits, the bound of their value, and the number that was read
abbrev Numeral : List ℕ → Type 0 → ℤ → ℤ → Type 0
Numeral digits Bounded y z = (AllDigits 10 digits × (0 < length digits) × Bounded) × (y ≡ z)

-- the number of a minus and these digits
minus_spelled : (digits : List ℕ) (v : ℕ) → digits ≡ decimal v → get_or digits 0 0 ≢ 48 → 45 ∷ digits ≡ signed_decimal (neg_ℤ (pos v))
minus_spelled digits zero e other = absurd (other (ap (λ (l : List ℕ). get_or l 0 0) (e ∙ decimal_digit 0 (omega arith))))
minus_spelled digits (suc m) e other = ap (λ (l : List ℕ). 45 ∷ l) e

minus_found : (E : Type 0) (digits : List ℕ) (z : ℤ) (r : Result ℤ E) → r ≡ Ok z → is_plain digits ≡ true → get_or digits 0 0 ≢ 48
    → ParsesSigned w8 10 (45 ∷ digits) r → 45 ∷ digits ≡ signed_decimal z
minus_found E digits z (Err e) is plain other parsed = absurd cc
minus_found E digits z (Ok y) is plain other parsed =
    let p : Numeral digits (digits_value 10 digits ≤ 2 ^ 7) y (neg_ℤ (pos (digits_value 10 digits))) = parse_signed_minus own {E = E} w8 (45 ∷ digits) (Ok y) parsed refl in
    let most = p.0.2 in
    let small : digits_value 10 digits < 2 ^ 64 = let low : 2 ^ 7 < 2 ^ 64 = omega arith in omega (arith, most, low) in
    let spelled = minus_spelled digits (digits_value 10 digits) (sym (plain_value digits plain p.0.0 small)) other in
    let same : y ≡ z = cc is in
    spelled ∙ ap signed_decimal (sym p.1 ∙ same)

plain_found : (E : Type 0) (text : List ℕ) (z : ℤ) (r : Result ℤ E) → r ≡ Ok z → is_plain text ≡ true → ParsesSigned w8 10 text r → text ≡ signed_decimal z
plain_found E text z (Err e) is plain parsed = absurd cc
plain_found E text z (Ok y) is plain parsed =
    let facts = plain_facts text plain in
    let sign = facts.no_sign in
    let p : Numeral text (digits_value 10 text < 2 ^ 7) y (pos (digits_value 10 text)) = parse_signed_plain own {E = E} w8 text (Ok y) parsed (λ plus. omega (arith, sign, plus)) (λ minus. omega (arith, sign, minus)) in
    let most = p.0.2 in
    let small : digits_value 10 text < 2 ^ 64 = let low : 2 ^ 7 < 2 ^ 64 = omega arith in omega (arith, most, low) in
    let same : y ≡ z = cc is in
    sym (plain_value text plain p.0.0 small) ∙ ap signed_decimal (sym p.1 ∙ same)

pub parsed_spelled : (E : Type 0) (text : List ℕ) (z : ℤ) (r : Result ℤ E) → r ≡ Ok z → is_plain_signed text ≡ true → ParsesSigned w8 10 text r
    → text ≡ signed_decimal z
parsed_spelled E text z r is plain parsed =
    elim (plain_cases text plain) [
      | inl h ↦
          let whole = h.whole in
          whole ∙ minus_found E h.digits z r is h.plain h.positive (subst (λ (t : List ℕ). ParsesSigned w8 10 t r) whole parsed)
      | inr h ↦ plain_found E text z r is h parsed
    ]

-- ---- the reading

decimal_value : (n : ℕ) → n < 2 ^ 64 → signed_digits_value 10 (decimal n) ≡ pos n
decimal_value n lt =
    let facts = plain_facts (decimal n) (decimal_plain n lt) in
    let sign = facts.no_sign in
    let no_minus : starts_with_minus (decimal n) ≡ false = ne_eqb (get_or (decimal n) 0 0) 45 (λ minus. omega (arith, sign, minus)) in
    let no_plus : without_leading_plus (decimal n) ≡ decimal n = without_leading_plus_none (decimal n) (λ plus. omega (arith, sign, plus)) in
    let bare : cond (starts_with_minus (decimal n)) (drop 1 (decimal n)) (without_leading_plus (decimal n)) ≡ decimal n =
    cond-false (starts_with_minus (decimal n)) (drop 1 (decimal n)) (without_leading_plus (decimal n)) no_minus ∙ no_plus in
    cond-false (starts_with_minus (decimal n)) _ _ no_minus ∙ ap (λ (t : List ℕ). pos (digits_value 10 t)) bare
    ∙ ap (λ (v : ℕ). pos v) (decimal_is_IsNumeral n lt).1

signed_value : (z : ℤ) → FitsSigned w8 z → signed_digits_value 10 (signed_decimal z) ≡ z
signed_value (pos n) f = decimal_value n (omega (arith, word n f.sfits))
signed_value (negsuc n) f = ap (λ (v : ℕ). neg_ℤ (pos v)) (decimal_is_IsNumeral (suc n) (word n f.sfits)).1

pub signed_again : (text : List ℕ) (z : ℤ) → FitsSigned w8 z → text ≡ signed_decimal z → signed_in text ≡ Some z
unfolding signed_in
signed_again text z f e =
    ap (signed_if text) (ap (signed_digits_value 10) e ∙ signed_value z f)
    ∙ cond-true (is_small z && is_text text (signed_decimal z)) (Some z) None
    (and_from (is_small z) (is_text text (signed_decimal z)) (fits_small z f) (is_text_same text (signed_decimal z) e))

pub signed_found : (text : List ℕ) (z : ℤ) → signed_in text ≡ Some z → (text ≡ signed_decimal z) × FitsSigned w8 z
unfolding signed_in
signed_found text z e =
    let v = signed_digits_value 10 text in
    let p = cond_some (is_small v && is_text text (signed_decimal v)) v z e in
    let q = and_parts (is_small v) (is_text text (signed_decimal v)) p.0 in
    (is_text_true text (signed_decimal v) q.1 ∙ ap signed_decimal p.1, subst (FitsSigned w8) p.1 (small_fits v q.0))

pub signed_exact : (text : List ℕ) (r : Option ℤ) → IfSome r (λ z. text ≡ signed_decimal z) → IfSome r (λ z. FitsSigned w8 z)
    → ((z : ℤ) → FitsSigned w8 z → text ≡ signed_decimal z → r ≡ Some z) → r ≡ signed_in text
signed_exact text (Some z) found fits only = sym (signed_again text z fits found)
signed_exact text None found fits only =
    elim (signed_in text) as (λ o. signed_in text ≡ o → None ≡ o) [
      | None ↦ λ is. refl
      | Some z ↦ λ is. let f = signed_found text z is in only z f.1 f.0
    ] refl
