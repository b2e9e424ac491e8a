-- Numbers in decimal.
use Rattle.std.proofs.Common.{◌≡◌, ℕ, zero, suc, ◌<◌, ◌≤◌, ◌^◌, true, List, [], ◌∷◌, length, get_or, refl, sym, ap, subst, ◌∙◌, arith, inl, inr}
use Rattle.std.specs.Prelude.{◌&&◌, ◌==◌, nat_le, nat_lt, Option, Some, None, IfSome, Result, Ok, Err}
use Rattle.std.specs.Fmt.{decimal}
use Rattle.std.specs.Str.{IsUtf8}
use Rattle.std.specs.Str.Parse.{IsNumeral, AllDigits, digits_value, ParsesUnsigned, without_leading_plus}
use Rattle.std.proofs.lemmas.Bool.{and_parts, and_from, leb-true, le-leb, ltb-true, lt-ltb, false≢true, eqb-true, eq-eqb, ne_eqb, cases_Bool, cond-false, cond-true}
use Rattle.std.proofs.lemmas.Option.{cond_some}
use Rattle.std.proofs.lemmas.Str.Parse.{IsNumeralModel, numerals_by_value, tells_digits, without_leading_plus_none, digit_at}
use Rattle.std.proofs.lemmas.Fmt.{decimal_is_IsNumeral, decimal_digit, first_decimal, decimal-digits_value, parse-decimal, IsAscii-decimal}
use Rattle.std.proofs.lemmas.Str.{IsUtf8-from_ascii}
use Rattle.records.specs.Reading.{is_text}
use Rattle.records.proofs.FieldLaws.{bind_some, is_text_true}
use Rattle.image_lines.specs.Reading.{decimal_in, is_plain, number_if, up_to}

pub own : IsNumeralModel (AllDigits 10) (digits_value 10)
own = numerals_by_value (AllDigits 10) tells_digits

pub is_text_same : (a b : List ℕ) → a ≡ b → is_text a b ≡ true
is_text_same a b e = subst (λ (t : List ℕ). is_text a t ≡ true) e (same a)
  where
    same : (t : List ℕ) → is_text t t ≡ true
    same [] = refl
    same (x ∷ xs) = and_from (x == x) (is_text xs xs) (eq-eqb x x refl) (same xs)

-- ---- plain texts

-- a plain text is not empty, has no sign, and begins with 0 only if it is `0`
pub record PlainFacts (text : List ℕ) : Type 0 where
  pub some : 0 < length text
  pub no_sign : 48 ≤ get_or text 0 0
  pub alone : get_or text 0 0 ≡ 48 → length text ≡ 1

pub plain_facts : (text : List ℕ) → is_plain text ≡ true → PlainFacts text
plain_facts [] e = absurd (false≢true e)
plain_facts (first ∷ more) e =
    elim (cases_Bool (first == 48)) [
      | inl t ↦
          let zero_first : first ≡ 48 = eqb-true first 48 t in
          let only : (length more == 0) ≡ true = sym (cond-true (first == 48) (length more == 0) (nat_le 49 first && nat_le first 57) t) ∙ e in
          let none : length more ≡ 0 = eqb-true (length more) 0 only in
          record { some = omega arith; no_sign = omega arith; alone = λ is. omega arith }
      | inr f ↦
          let other : (nat_le 49 first && nat_le first 57) ≡ true = sym (cond-false (first == 48) (length more == 0) (nat_le 49 first && nat_le first 57) f)
          ∙ e in
          let p = and_parts (nat_le 49 first) (nat_le first 57) other in
          let low = leb-true 49 first p.0 in
          record { some = omega arith; no_sign = omega (arith, low); alone = λ is. omega (arith, low) }
    ]

pub plain_from : (text : List ℕ) → 0 < length text → 48 < get_or text 0 0 → get_or text 0 0 ≤ 57 → is_plain text ≡ true
plain_from [] some low high = absurd (omega arith)
plain_from (first ∷ more) some low high =
    cond-false (first == 48) (length more == 0) (nat_le 49 first && nat_le first 57) (ne_eqb first 48 (λ e. omega arith))
    ∙ and_from (nat_le 49 first) (nat_le first 57) (le-leb 49 first (omega arith)) (le-leb first 57 (omega arith))

-- the text of a number that is not 0
pub positive_plain : (n : ℕ) → 0 < n → n < 2 ^ 64 → is_plain (decimal n) ≡ true
positive_plain n some lt =
    let numeral = (decimal_is_IsNumeral n lt).0 in
    let first = digit_at (decimal n) 0 numeral.1 numeral.0 in
    plain_from (decimal n) numeral.0 (first_decimal n some lt) (omega (arith, first))

pub decimal_plain : (n : ℕ) → n < 2 ^ 64 → is_plain (decimal n) ≡ true
decimal_plain zero lt = rw (decimal_digit 0 (omega arith)) refl
decimal_plain (suc n) lt = positive_plain (suc n) (omega arith) lt

-- a plain text of digits is that of its value
pub plain_value : (text : List ℕ) → is_plain text ≡ true → AllDigits 10 text → digits_value 10 text < 2 ^ 64 → decimal (digits_value 10 text) ≡ text
plain_value text plain digits small =
    let facts = plain_facts text plain in
    decimal-digits_value own text digits facts.some facts.alone small

-- ---- what `parse` answers

pub spelled_plain : (text : List ℕ) (n : ℕ) → n < 2 ^ 64 → text ≡ decimal n → is_plain text ≡ true
spelled_plain text n lt e = rw e (decimal_plain n lt)

pub spelled_utf8 : (text : List ℕ) (n : ℕ) → n < 2 ^ 64 → text ≡ decimal n → IsUtf8 text
spelled_utf8 text n lt e = subst IsUtf8 (sym e) (IsUtf8-from_ascii (decimal n) (IsAscii-decimal n lt))

pub spelled_parsed : {E : Type 0} (text : List ℕ) (n : ℕ) (r : Result ℕ E) → n < 2 ^ 64 → text ≡ decimal n → ParsesUnsigned 64 10 text r → r ≡ Ok n
spelled_parsed text n r lt e parsed = parse-decimal 64 n text r lt lt e parsed

pub parsed_spelled : {E : Type 0} (text : List ℕ) (n : ℕ) (r : Result ℕ E) → r ≡ Ok n → is_plain text ≡ true → ParsesUnsigned 64 10 text r
    → (text ≡ decimal n) × (n < 2 ^ 64)
parsed_spelled text n (Err e) is plain parsed = absurd cc
parsed_spelled text n (Ok m) is plain parsed =
    let facts = plain_facts text plain in
    let sign = facts.no_sign in
    let whole : without_leading_plus text ≡ text = without_leading_plus_none text (λ plus. omega (arith, sign, plus)) in
    let numeral : IsNumeral 10 text = subst (IsNumeral 10) whole parsed.0.0 in
    let same : m ≡ n = cc is in
    let value : digits_value 10 text ≡ n = ap (digits_value 10) (sym whole) ∙ sym parsed.1 ∙ same in
    let small : digits_value 10 text < 2 ^ 64 = subst (λ (v : ℕ). v < 2 ^ 64) (ap (digits_value 10) whole) parsed.0.1 in
    (sym (plain_value text plain numeral.1 small) ∙ ap decimal value, subst (λ (v : ℕ). v < 2 ^ 64) value small)

-- ---- the reading

pub decimal_again : (text : List ℕ) (n : ℕ) → n < 2 ^ 64 → text ≡ decimal n → decimal_in text ≡ Some n
unfolding decimal_in
decimal_again text n lt e =
    let value : digits_value 10 text ≡ n = ap (digits_value 10) e ∙ (decimal_is_IsNumeral n lt).1 in
    ap (number_if text) value
    ∙ cond-true (nat_lt n (2 ^ 64) && is_text text (decimal n)) (Some n) None
    (and_from (nat_lt n (2 ^ 64)) (is_text text (decimal n)) (lt-ltb n (2 ^ 64) lt) (is_text_same text (decimal n) e))

pub decimal_found : (text : List ℕ) (n : ℕ) → decimal_in text ≡ Some n → (text ≡ decimal n) × (n < 2 ^ 64)
unfolding decimal_in
decimal_found text n e =
    let v = digits_value 10 text in
    let p = cond_some (nat_lt v (2 ^ 64) && is_text text (decimal v)) v n e in
    let q = and_parts (nat_lt v (2 ^ 64)) (is_text text (decimal v)) p.0 in
    (is_text_true text (decimal v) q.1 ∙ ap decimal p.1, subst (λ (m : ℕ). m < 2 ^ 64) p.1 (ltb-true v (2 ^ 64) q.0))

pub decimal_exact : (text : List ℕ) (r : Option ℕ) → IfSome r (λ n. text ≡ decimal n) → IfSome r (λ n. n < 2 ^ 64)
    → ((n : ℕ) → n < 2 ^ 64 → text ≡ decimal n → r ≡ Some n) → r ≡ decimal_in text
decimal_exact text (Some n) found fits only = sym (decimal_again text n fits found)
decimal_exact text None found fits only =
    elim (decimal_in text) as (λ o. decimal_in text ≡ o → None ≡ o) [
      | None ↦ λ is. refl
      | Some n ↦ λ is. let f = decimal_found text n is in only n f.1 f.0
    ] refl

pub up_to_again : (most n : ℕ) → n ≤ most → n < 2 ^ 64 → up_to most (decimal n) ≡ Some n
unfolding up_to
up_to_again most n le lt = rw (decimal_again (decimal n) n lt refl, le-leb n most le) refl

pub up_to_found : (most : ℕ) (text : List ℕ) (n : ℕ) → up_to most text ≡ Some n → (text ≡ decimal n) × (n ≤ most)
unfolding up_to
up_to_found most text n e =
    let b = bind_some (decimal_in text) _ n e in
    let p = cond_some (nat_le b.0 most) b.0 n b.2 in
    ((decimal_found text b.0 b.1).0 ∙ ap decimal p.1, subst (λ (m : ℕ). m ≤ most) p.1 (leb-true b.0 most p.0))
