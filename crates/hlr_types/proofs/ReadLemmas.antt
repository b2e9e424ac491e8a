-- TBCD is read as a number that grows by an octet at its low end.
use Rattle.std.proofs.Common.{◌≡◌, ℕ, zero, suc, ◌+◌, ◌-◌, ◌*◌, ◌/◌, ◌%◌, ◌^◌, ◌<◌, ◌≤◌, Bool, true, false, ◌&&◌, eqb, leb, ltb, cond, List, [], ◌∷◌, length, take, slice_index, ◌++◌, append_assoc, length-append, refl, sym, ap, ◌∙◌, subst, arith}
use Rattle.std.proofs.lemmas.Bool.Decides.{nat_tests}
use Rattle.std.proofs.lemmas.Grind.{common_steps, flat_map-append}
use Rattle.std.specs.Prelude.{Ok, Err}
use Rattle.std.proofs.Math.Nat.{pow-le-pow_right}
use Rattle.std.proofs.lemmas.Bool.{le-leb}
use Rattle.hlr_types.specs.declared.tbcd.TbcdFault.TheVariants.{BadDigit}
use Rattle.std.specs.List.{AllByRecursion}
use Rattle.hlr_types.specs.Tbcd.{both_halves, halves, last_halves, are_digits, digits_of}
use Rattle.hlr_types.specs.Digits.{AreSomeDigits}
use Rattle.hlr_types.specs.Words.{packed}
use Rattle.hlr_types.proofs.PackLemmas.{packed_snoc, packed_wide, shifted_at, IsWordOf, is_word_of}
use Rattle.hlr_types.proofs.WordLemmas.{packed_lt}
use Rattle.hlr_types.proofs.TbcdLemmas.{are_digits_each, unfilled_append}

-- The octets hold digits alone, which make this number.
pub record IsNumber (number : ℕ) (octets : List ℕ) : Type 0 where
  pub each : are_digits (halves octets) ≡ true
  pub value : number ≡ packed (length (halves octets)) (halves octets)

pub length_halves : (octets : List ℕ) → length (halves octets) ≡ 2 * length octets
length_halves [] = refl
length_halves (x ∷ xs) = omega (arith, length_halves xs)

packed_pair : (ds : List ℕ) (a b : ℕ) → packed (length (ds ++ a ∷ b ∷ [])) (ds ++ a ∷ b ∷ []) ≡ packed (length ds) ds * 256 + ((a + 1) * 16 + (b + 1))
packed_pair ds a b =
    let one = packed_snoc ds a in
    let two = packed_snoc (ds ++ a ∷ []) b in
    let n : length (ds ++ a ∷ []) ≡ suc (length ds) = grind (arith, common_steps) in
    let m : length (ds ++ a ∷ b ∷ []) ≡ suc (length (ds ++ a ∷ [])) = grind (arith, common_steps) in
    let whole : packed (length (ds ++ a ∷ b ∷ [])) (ds ++ a ∷ b ∷ []) ≡ packed (length (ds ++ a ∷ [])) (ds ++ a ∷ []) * 16 + (b + 1) =
    ap (λ k. packed k (ds ++ a ∷ b ∷ [])) m ∙ ap (packed (suc (length (ds ++ a ∷ [])))) (sym (append_assoc ds (a ∷ []) (b ∷ []))) ∙ two in
    let front : packed (length (ds ++ a ∷ [])) (ds ++ a ∷ []) ≡ packed (length ds) ds * 16 + (a + 1) = ap (λ k. packed k (ds ++ a ∷ [])) n ∙ one in
    omega (arith, whole, front)

halves_more : (octets : List ℕ) (octet : ℕ) → halves (octets ++ octet ∷ []) ≡ halves octets ++ octet % 16 ∷ octet / 16 ∷ []
halves_more octets octet = flat_map-append both_halves octets (octet ∷ [])

pub number_small : (number : ℕ) (octets : List ℕ) → IsNumber number octets → length octets < 8 → number < 16 ^ 14
number_small number octets is len =
    let ds = halves octets in
    let n = length_halves octets in
    let few : length ds ≤ 14 = omega (arith, n, len) in
    let p : 16 ^ length ds ≤ 16 ^ 14 = pow-le-pow_right (omega arith) few in
    omega (arith, p, is.value, packed_lt (length ds) ds (are_digits_each ds is.each))

pub number_more : (number octet : ℕ) (octets : List ℕ) → IsNumber number octets → octet % 16 < 10 → octet / 16 < 10
    → IsNumber (number * 256 + (octet % 16 * 16 + octet / 16 + 17)) (octets ++ octet ∷ [])
number_more number octet octets is low high =
    let h = halves_more octets octet in
    let v = ap (λ ds. packed (length ds) ds) h ∙ packed_pair (halves octets) (octet % 16) (octet / 16) in
    let e = is.each in
    record {
      each = ap are_digits h ∙ grind (arith, common_steps);
      value = omega (arith, v, is.value);
    }

pub no_octets : IsNumber 0 []
no_octets = record { each = refl; value = refl }

pub bad_low : (i : ℕ) (octets : List ℕ) → i < length octets → 10 ≤ slice_index octets i % 16 → are_digits (halves octets) ≡ false
bad_low i [] len h = absurd (omega arith)
bad_low zero (x ∷ xs) len h = grind (arith, nat_tests)
bad_low (suc i) (x ∷ xs) len h = let e = bad_low i xs (omega (arith, len)) h in grind (arith, nat_tests)

pub bad_high : (i : ℕ) (octets : List ℕ) → i < length octets → 10 ≤ slice_index octets i / 16 → are_digits (halves octets) ≡ false
bad_high i [] len h = absurd (omega arith)
bad_high zero (x ∷ xs) len h = grind (arith, nat_tests)
bad_high (suc i) (x ∷ xs) len h = let e = bad_high i xs (omega (arith, len)) h in grind (arith, nat_tests)

take_more : (i : ℕ) (xs : List ℕ) → i < length xs → take (suc i) xs ≡ take i xs ++ slice_index xs i ∷ []
take_more i [] len = absurd (omega arith)
take_more zero (x ∷ xs) len = refl
take_more (suc i) (x ∷ xs) len = ap (λ ys. x ∷ ys) (take_more i xs (omega (arith, len)))

-- The number after one octet more.
pub next_number : (number i v : ℕ) (octets : List ℕ) → IsNumber number (take i octets) → i < length octets
    → slice_index octets i % 16 < 10 → slice_index octets i / 16 < 10 → v ≡ slice_index octets i % 16 * 16 + slice_index octets i / 16 + 17
    → IsNumber (number * 256 + v) (take (i + 1) octets)
next_number number i v octets is len low high e =
    let j : i + 1 ≡ suc i = omega arith in
    let t : take (i + 1) octets ≡ take i octets ++ slice_index octets i ∷ [] = ap (λ k. take k octets) j ∙ take_more i octets len in
    subst (λ x. IsNumber (number * 256 + x) (take (i + 1) octets)) (sym e)
    (subst (IsNumber (number * 256 + (slice_index octets i % 16 * 16 + slice_index octets i / 16 + 17))) (sym t)
    (number_more number (slice_index octets i) (take i octets) is low high))

pub small_at : (number i : ℕ) (octets : List ℕ) → IsNumber number (take i octets) → length octets < 8 → number < 16 ^ 14
small_at number i octets is len =
    let few : length (take i octets) < 8 = grind (arith, common_steps) in
    number_small number (take i octets) is few

pub ruleset number_laws = (small_at, next_number, no_octets, bad_low, bad_high)

-- ---- the last octet

each_append : (xs ys : List ℕ) → AllByRecursion (λ d. d < 10) xs → AllByRecursion (λ d. d < 10) ys → AllByRecursion (λ d. d < 10) (xs ++ ys)
each_append [] ys h k = k
each_append (x ∷ xs) ys h k = (h.0, each_append xs ys h.1 k)

last-word : (number k w : ℕ) (front ys : List ℕ) → IsNumber number front → length front < 8 → 1 ≤ length ys → length ys ≤ 2
    → AllByRecursion (λ d. d < 10) ys → k ≡ 2 * length front + 2 → w ≡ packed k (halves front ++ ys)
    → IsWordOf (w * 2 ^ (56 - 8 * length front) % 2 ^ 64) (halves front ++ ys)
last-word number k w front ys is len least most each kis wis =
    let n = length_halves front in
    let l = length-append (halves front) ys in
    let are : AreSomeDigits (halves front ++ ys) = record {
      some = omega (arith, l, least);
      most = omega (arith, l, n, len, most);
      each = each_append (halves front) ys (are_digits_each _ is.each) each;
    } in
    let whole = shifted_at k (halves front ++ ys) are (omega (arith, l, n, kis, most)) (omega (arith, kis, len)) in
    let s : 56 - 8 * length front ≡ 64 - 4 * k = omega (arith, kis) in
    is_word_of _ _ are (ap (λ x. x * 2 ^ (56 - 8 * length front) % 2 ^ 64) wis
    ∙ ap (λ j. packed k (halves front ++ ys) * 2 ^ j % 2 ^ 64) s ∙ whole)

with-last-by : (full : Bool) (number last : ℕ) (front : List ℕ) → eqb (last / 16) 15 ≡ full → IsNumber number front → length front < 8
    → last % 16 < 10 → (last / 16 + 1) % 16 ≤ 10 → last < 256
    → IsWordOf ((number * 256 + (last % 16 * 16 + 16 + (last / 16 + 1) % 16)) * 2 ^ (56 - 8 * length front) % 2 ^ 64)
    (halves front ++ cond full (last % 16 ∷ []) (both_halves last))
with-last-by true number last front e is len low high octet =
    let f : last / 16 ≡ 15 = grind (arith, nat_tests) in
    let ds = halves front in
    let a = last % 16 in
    let n = length_halves front in
    let l = length-append ds (a ∷ []) in
    let m : length (ds ++ a ∷ []) ≡ suc (length ds) = omega (arith, l) in
    let one = packed_snoc ds a in
    let front-is : packed (length (ds ++ a ∷ [])) (ds ++ a ∷ []) ≡ packed (length ds) ds * 16 + (a + 1) = ap (λ k. packed k (ds ++ a ∷ [])) m ∙ one in
    let wide = packed_wide (length (ds ++ a ∷ [])) (ds ++ a ∷ []) (omega arith) in
    let z : (last / 16 + 1) % 16 ≡ 0 = omega (arith, f) in
    last-word number (suc (length (ds ++ a ∷ []))) _ front (a ∷ []) is len (omega arith) (omega arith) (low, tt) (omega (arith, m, n))
    (omega (arith, wide, front-is, z, is.value))
with-last-by false number last front e is len low high octet =
    let f : eqb (last / 16) 15 ≡ false = e in
    let ne : last / 16 < 15 = grind (arith, nat_tests) in
    let ds = halves front in
    let n = length_halves front in
    let l = length-append ds (both_halves last) in
    let two = packed_pair ds (last % 16) (last / 16) in
    let z : (last / 16 + 1) % 16 ≡ last / 16 + 1 = omega (arith, ne) in
    last-word number (length (ds ++ both_halves last)) _ front (both_halves last) is len (omega arith) (omega arith) (low, (omega (arith, z, high), tt))
    (omega (arith, l, n)) (omega (arith, two, z, is.value))

pub with_last : (number last : ℕ) (front : List ℕ) → IsNumber number front → length front < 8 → last % 16 < 10 → (last / 16 + 1) % 16 ≤ 10 → last < 256
    → IsWordOf ((number * 256 + (last % 16 * 16 + 16 + (last / 16 + 1) % 16)) * 2 ^ (56 - 8 * length front) % 2 ^ 64) (halves front ++ last_halves last)
with_last number last front is len low high octet = with-last-by (eqb (last / 16) 15) number last front refl is len low high octet

pub ruleset last_laws = (with_last, number_small)

-- ---- both together

and-first : (a b c d : Bool) → b ≡ (c && d) → (a && b) ≡ ((a && c) && d)
and-first true b c d e = e
and-first false b c d e = refl

are_digits_append : (xs ys : List ℕ) → are_digits (xs ++ ys) ≡ (are_digits xs && are_digits ys)
are_digits_append [] ys = refl
are_digits_append (x ∷ xs) ys = and-first (ltb x 10) _ (are_digits xs) (are_digits ys) (are_digits_append xs ys)

two-tests : {A : Type 0} (a b : Bool) (x y : A) → cond (a && b) x y ≡ cond a (cond b x y) y
two-tests true b x y = refl
two-tests false b x y = refl

pub read_whole : (front : List ℕ) (last : ℕ) → length front < 8 → digits_of (front ++ last ∷ [])
    ≡ cond (are_digits (halves front)) (cond (are_digits (last_halves last)) (Ok (halves front ++ last_halves last)) (Err BadDigit)) (Err BadDigit)
read_whole front last len =
    let l = length-append front (last ∷ []) in
    let low : leb 1 (length (front ++ last ∷ [])) ≡ true = le-leb _ _ (omega (arith, l)) in
    let high : leb (length (front ++ last ∷ [])) 8 ≡ true = le-leb _ _ (omega (arith, l, len)) in
    rw (low, high, unfilled_append front last, are_digits_append (halves front) (last_halves last))
    (two-tests (are_digits (halves front)) (are_digits (last_halves last)) (Ok (halves front ++ last_halves last)) (Err BadDigit))

pub ruleset read_laws = (read_whole)
