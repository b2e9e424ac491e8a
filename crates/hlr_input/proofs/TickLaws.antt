-- Clock values in decimal.
use Rattle.std.proofs.Common.{◌≡◌, ◌≢◌, ℕ, zero, suc, ◌<◌, ◌≤◌, ◌^◌, true, false, List, [], ◌∷◌, length, get_or, refl, sym, ap, subst, ◌∙◌, arith, inl, inr}
use Rattle.std.specs.Prelude.{◌&&◌, ◌==◌, nat_le, Result, Ok, Err}
use Rattle.std.specs.Fmt.{decimal}
use Rattle.std.specs.Str.{IsUtf8}
use Rattle.std.specs.Str.Parse.{IsNumeral, AllDigits, digits_value, ParsesUnsigned, without_leading_plus}
use Rattle.std.proofs.lemmas.Bool.{and_parts, and_from, leb-true, le-leb, false≢true, eqb-true, ne_eqb, cases_Bool, cond-false, cond-true}
use Rattle.std.proofs.lemmas.Str.Parse.{IsNumeralModel, numerals_by_value, tells_digits, without_leading_plus_none, digit_at}
use Rattle.std.proofs.lemmas.Fmt.{decimal_is_IsNumeral, decimal_digit, first_decimal, decimal-digits_value, parse-decimal, IsAscii-decimal}
use Rattle.std.proofs.lemmas.Str.{IsUtf8-from_ascii}
use Rattle.hlr_input.specs.Script.{IsTicks, has_space}
use Rattle.hlr_input.specs.Reading.{is_plain}

own : IsNumeralModel (AllDigits 10) (digits_value 10)
own = numerals_by_value (AllDigits 10) tells_digits

-- a plain text has no plus sign, is not empty, and begins with 0 only if it is `0`
pub plain_facts : (text : List ℕ) → is_plain text ≡ true → (0 < length text) × (get_or text 0 0 ≢ 43) × (get_or text 0 0 ≡ 48 → length text ≡ 1)
plain_facts [] e = absurd (false≢true e)
plain_facts (first ∷ more) e =
    elim (cases_Bool (first == 48)) [
      | inl t ↦
          let zero_first : first ≡ 48 = eqb-true first 48 t in
          let alone : (length more == 0) ≡ true = sym (cond-true (first == 48) (length more == 0) (nat_le 49 first && nat_le first 57) t) ∙ e in
          let none : length more ≡ 0 = eqb-true (length more) 0 alone in
          (omega arith, (λ is. omega arith), (λ is. omega arith))
      | inr f ↦
          let other : (nat_le 49 first && nat_le first 57) ≡ true = sym (cond-false (first == 48) (length more == 0) (nat_le 49 first && nat_le first 57) f)
          ∙ e in
          let p = and_parts (nat_le 49 first) (nat_le first 57) other in
          let low = leb-true 49 first p.0 in
          (omega arith, (λ is. omega (arith, low)), (λ is. omega (arith, low)))
    ]

plain_from : (text : List ℕ) → 0 < length text → 48 < get_or text 0 0 → get_or text 0 0 ≤ 57 → is_plain text ≡ true
plain_from [] some low high = absurd (omega arith)
plain_from (first ∷ more) some low high =
    cond-false (first == 48) (length more == 0) (nat_le 49 first && nat_le first 57) (ne_eqb first 48 (λ e. omega arith))
    ∙ and_from (nat_le 49 first) (nat_le first 57) (le-leb 49 first (omega arith)) (le-leb first 57 (omega arith))

decimal_plain : (n : ℕ) → n < 2 ^ 64 → is_plain (decimal n) ≡ true
decimal_plain zero lt = rw (decimal_digit 0 (omega arith)) refl
decimal_plain (suc n) lt =
    let numeral = (decimal_is_IsNumeral (suc n) lt).0 in
    let first = digit_at (decimal (suc n)) 0 numeral.1 numeral.0 in
    plain_from (decimal (suc n)) numeral.0 (first_decimal (suc n) (omega arith) lt) (omega (arith, first))

fits : (n : ℕ) → n ≤ 2 ^ 62 → n < 2 ^ 64
fits n le = let small : 2 ^ 62 < 2 ^ 64 = omega arith in omega (arith, le, small)

pub ticks_plain : (text : List ℕ) (n : ℕ) → IsTicks text n → is_plain text ≡ true
ticks_plain text n h = rw h.written_so (decimal_plain n (fits n h.most))

pub ticks_utf8 : (text : List ℕ) (n : ℕ) → IsTicks text n → IsUtf8 text
ticks_utf8 text n h = subst IsUtf8 (sym h.written_so) (IsUtf8-from_ascii (decimal n) (IsAscii-decimal n (fits n h.most)))

pub ticks_parsed : {E : Type 0} (text : List ℕ) (n : ℕ) (r : Result ℕ E) → IsTicks text n → ParsesUnsigned 64 10 text r → r ≡ Ok n
ticks_parsed text n r h parsed = parse-decimal 64 n text r (fits n h.most) (fits n h.most) h.written_so parsed

pub ticks_found : {E : Type 0} (text : List ℕ) (n : ℕ) (r : Result ℕ E) → r ≡ Ok n → is_plain text ≡ true → ParsesUnsigned 64 10 text r → n ≤ 2 ^ 62
    → IsTicks text n
ticks_found text n (Err e) is plain parsed most = absurd cc
ticks_found text n (Ok m) is plain parsed most =
    let facts = plain_facts text plain in
    let whole : without_leading_plus text ≡ text = without_leading_plus_none text facts.1 in
    let numeral : IsNumeral 10 text = subst (IsNumeral 10) whole parsed.0.0 in
    let same : m ≡ n = cc is in
    let value : digits_value 10 text ≡ n = ap (digits_value 10) (sym whole) ∙ sym parsed.1 ∙ same in
    let small : digits_value 10 text < 2 ^ 64 = subst (λ (v : ℕ). v < 2 ^ 64) (sym value) (fits n most) in
    record { written_so = sym (decimal-digits_value own text numeral.1 facts.0 facts.2 small) ∙ ap decimal value; most = most }

-- a clock value has no space
digits_free : (text : List ℕ) → AllDigits 10 text → has_space text ≡ false
digits_free [] all = refl
digits_free (c ∷ cs) all =
    let first = digit_at (c ∷ cs) 0 all (omega arith) in
    rw (ne_eqb c 32 (λ is. omega (arith, first, is)), digits_free cs all.1) refl

pub ticks_free : (text : List ℕ) (n : ℕ) → IsTicks text n → has_space text ≡ false
ticks_free text n h = rw h.written_so (digits_free (decimal n) (decimal_is_IsNumeral n (fits n h.most)).0.1)
