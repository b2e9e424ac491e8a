-- Octets and digits are two forms of one text.
use Rattle.std.proofs.Common.{◌≡◌, ℕ, ◌+◌, ◌*◌, ◌%◌, ◌/◌, ◌<◌, ◌≤◌, Bool, true, false, ◌&&◌, ltb, leb, eqb, cond, List, [], ◌∷◌, length, refl, ap, sym, ◌∙◌, subst, arith}
use Rattle.std.specs.Prelude.{Ok, Err}
use Rattle.std.specs.List.{AllByRecursion}
use Rattle.std.proofs.lemmas.Bool.Decides.{nat_tests}
use Rattle.std.proofs.lemmas.Bool.{leb-true}
use Rattle.hlr_types.specs.declared.tbcd.TbcdFault.TheVariants.{BadCount, BadDigit}
use Rattle.hlr_types.specs.Tbcd.{last_halves, unfilled, are_digits, tbcd, IsTbcd, digits_of, AreTwoForms, AreInverse}
use Rattle.hlr_types.specs.Digits.{AreSomeDigits}
use Rattle.hlr_types.proofs.TbcdLemmas.{are_digits_each, length_tbcd}

one : (a b : ℕ) → a ≡ b → a ∷ [] ≡ b ∷ []
one a b e = ap (λ x. x ∷ []) e

last-again : (b : ℕ) (full : Bool) → eqb (b / 16) 15 ≡ full → tbcd (cond full (b % 16 ∷ []) (b % 16 ∷ b / 16 ∷ [])) ≡ b ∷ []
last-again b true e = let f : b / 16 ≡ 15 = grind (arith, nat_tests) in one _ _ (omega arith)
last-again b false e = one _ _ (omega arith)

-- the octets of what was read are those that were read
pub tbcd-unfilled : (b : List ℕ) → tbcd (unfilled b) ≡ b
tbcd-unfilled [] = refl
tbcd-unfilled (x ∷ []) = last-again x (eqb (x / 16) 15) refl
tbcd-unfilled (x ∷ y ∷ bs) =
    let e : x % 16 + 16 * (x / 16) ≡ x = omega arith in
    let r = tbcd-unfilled (y ∷ bs) in
    cc

last-filled : (d : ℕ) → d < 10 → last_halves (d + 16 * 15) ≡ d ∷ []
last-filled d h =
    let e : (d + 16 * 15) / 16 ≡ 15 = omega arith in
    let f : (d + 16 * 15) % 16 ≡ d = omega arith in
    rw (e, f) refl

last-both : (d e : ℕ) → d < 10 → e < 10 → last_halves (d + 16 * e) ≡ d ∷ e ∷ []
last-both d e h k =
    let q : (d + 16 * e) / 16 ≡ e = omega arith in
    let r : (d + 16 * e) % 16 ≡ d = omega arith in
    let t : eqb e 15 ≡ false = grind (arith, nat_tests) in
    rw (q, r, t) refl

-- digits that were written are read again
pub unfilled-tbcd : (d : List ℕ) → AllByRecursion (λ x. x < 10) d → unfilled (tbcd d) ≡ d
unfilled-tbcd [] h = refl
unfilled-tbcd (x ∷ []) h = last-filled x h.0
unfilled-tbcd (x ∷ y ∷ []) h = last-both x y h.0 h.1.0
unfilled-tbcd (x ∷ y ∷ z ∷ []) h =
    let q : (x + 16 * y) / 16 ≡ y = omega (arith, h.0, h.1.0) in
    let r : (x + 16 * y) % 16 ≡ x = omega (arith, h.0, h.1.0) in
    let rest = unfilled-tbcd (z ∷ []) h.1.1 in
    cc
unfilled-tbcd (x ∷ y ∷ z ∷ w ∷ ds) h =
    let q : (x + 16 * y) / 16 ≡ y = omega (arith, h.0, h.1.0) in
    let r : (x + 16 * y) % 16 ≡ x = omega (arith, h.0, h.1.0) in
    let rest = unfilled-tbcd (z ∷ w ∷ ds) h.1.1 in
    cc

pub each_are_digits : (ds : List ℕ) → AllByRecursion (λ d. d < 10) ds → are_digits ds ≡ true
each_are_digits [] h = refl
each_are_digits (d ∷ ds) h =
    let here : ltb d 10 ≡ true = grind (arith, nat_tests, h.0) in
    let rest = each_are_digits ds h.1 in
    grind (arith, nat_tests)

pub length_tbcd_least : (ds : List ℕ) → length ds ≤ 2 * length (tbcd ds)
length_tbcd_least [] = omega arith
length_tbcd_least (d ∷ []) = omega arith
length_tbcd_least (d ∷ e ∷ ds) = omega (arith, length_tbcd_least ds)

-- If the reading succeeds, the counts are right and the octets spell the digits.
found-in : (octets d : List ℕ) (low high good : Bool) → leb 1 (length octets) ≡ low → leb (length octets) 8 ≡ high → are_digits (unfilled octets) ≡ good →
    cond (low && high) (cond good (Ok (unfilled octets)) (Err BadDigit)) (Err BadCount) ≡ Ok d → IsTbcd octets d
found-in octets d true true true l h g e =
    let same : unfilled octets ≡ d = cc in
    let spelled : octets ≡ tbcd d = sym (tbcd-unfilled octets) ∙ ap tbcd same in
    let len = ap length spelled in
    let least = leb-true _ _ l in
    let most = leb-true _ _ h in
    record {
      some = record {
        some = omega (arith, least, len, length_tbcd d);
        most = omega (arith, most, len, length_tbcd_least d);
        each = subst (AllByRecursion (λ x. x < 10)) same (are_digits_each _ g);
      };
      spelled = spelled;
    }
found-in octets d true true false l h g e = absurd cc
found-in octets d true false good l h g e = absurd cc
found-in octets d false high good l h g e = absurd cc

pub digits_found : (octets d : List ℕ) → digits_of octets ≡ Ok d → IsTbcd octets d
digits_found octets d e = found-in octets d (leb 1 (length octets)) (leb (length octets) 8) (are_digits (unfilled octets)) refl refl refl e

-- Digits that are written are read again.
pub digits_of-tbcd : (d : List ℕ) → AreSomeDigits d → digits_of (tbcd d) ≡ Ok d
digits_of-tbcd d some =
    let low : leb 1 (length (tbcd d)) ≡ true = grind (arith, nat_tests, length_tbcd_least d, some.some) in
    let high : leb (length (tbcd d)) 8 ≡ true = grind (arith, nat_tests, length_tbcd d, some.most) in
    let back = unfilled-tbcd d some.each in
    let good = each_are_digits d some.each in
    rw (low, high, back, good) refl

pub digits_again : (octets d : List ℕ) → IsTbcd octets d → digits_of octets ≡ Ok d
digits_again octets d is = ap digits_of is.spelled ∙ digits_of-tbcd d is.some

pub tbcd_is : (d : List ℕ) → AreSomeDigits d → IsTbcd (tbcd d) d
tbcd_is d some = record { some = some; spelled = refl }

pub ruleset tbcd_laws = (digits_found, digits_again, digits_of-tbcd, tbcd_is)

pub same_text : (octets d e : List ℕ) → IsTbcd octets d → IsTbcd octets e → d ≡ e
same_text octets d e is also =
    let read : Ok d ≡ Ok e = sym (digits_again octets d is) ∙ digits_again octets e also in
    cc

pub are_two_forms : AreTwoForms
are_two_forms = record {
  has_form = tbcd_is;
  one_form = λ d octets others is also. is.spelled ∙ sym also.spelled;
  one_text = same_text;
}

pub are_inverse : AreInverse
are_inverse = record {
  written_is_read = digits_of-tbcd;
  read_is_written = λ octets d e. sym (digits_found octets d e).spelled;
}

pub ruleset two_forms = (are_two_forms, are_inverse)
