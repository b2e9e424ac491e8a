-- What a field stands for is read from it.
use Rattle.std.proofs.Common.{◌≡◌, ℕ, ◌+◌, ◌-◌, ◌<◌, ◌≤◌, true, false, List, [], ◌∷◌, ◌++◌, length, map, refl, sym, ap, subst, ◌∙◌, arith, append_assoc}
use Rattle.std.specs.Prelude.{◌==◌, nat_le, nat_lt, nat_eq, Some, Ok, option_map, slice_index}
use Rattle.std.specs.List.{AllByRecursion, list_all, list_any, join_with_byte, IsDistinct, onto_first}
use Rattle.std.specs.Result.{result_ok}
use Rattle.std.proofs.lemmas.Bool.{ne_eqb, eq-eqb, or_from, and_from, le-leb, lt-ltb}
use Rattle.std.proofs.lemmas.List.{append-nil, length-append, length-map}
use Rattle.std.proofs.lemmas.List.Splits.{slice_split-cons_yes, slice_split-cons_no}
use Rattle.std.proofs.lemmas.Map.Keys.{IsDistinct-head, IsDistinct-tail}
use Rattle.hex.specs.Hex.{decode_of, decode_sized}
use Rattle.hex.proofs.HexLemmas.{decode_sized-twice, decode_of-ok}
use Rattle.hlr_types.specs.Digits.{AreImsiDigits}
use Rattle.hlr_types.specs.DigitTexts.{digits_in, is_digit, text_of}
use Rattle.hlr_types.specs.Identities.{imsi_from}
use Rattle.texts.specs.Lines.{parts}
use Rattle.records.specs.Reading.{octet_in, codes_after, prefixes_after, imsi_in}
use Rattle.records.specs.Spelling.{IsNumber, IsImsiNumber, IsCode, Each}

-- ---- digits

all_digits : (ds : List ℕ) → AllByRecursion (λ d. d < 10) ds → list_all is_digit (text_of ds) ≡ true
all_digits [] h = refl
all_digits (d ∷ ds) h = and_from (is_digit (d + 48)) (list_all is_digit (text_of ds))
    (and_from (nat_le 48 (d + 48)) (nat_le (d + 48) 57) (le-leb 48 (d + 48) (omega arith)) (le-leb (d + 48) 57 (omega (arith, h.0)))) (all_digits ds h.1)

digits_back : (ds : List ℕ) → map (λ b. b - 48) (text_of ds) ≡ ds
digits_back [] = refl
digits_back (d ∷ ds) = let e : (d + 48) - 48 ≡ d = omega arith in cc (digits_back ds)

pub number_again : (text digits : List ℕ) → IsNumber text digits → digits_in text ≡ Some digits
number_again text digits h =
    let len : length (text_of digits) ≡ length digits = length-map digits (λ d. d + 48) in
    let one : nat_le 1 (length (text_of digits)) ≡ true = le-leb 1 (length (text_of digits)) (omega (arith, h.1.some)) in
    let most : nat_le (length (text_of digits)) 16 ≡ true = le-leb (length (text_of digits)) 16 (omega (arith, h.1.most)) in
    let all = all_digits digits h.1.each in
    let made : digits_in (text_of digits) ≡ Some digits = rw (one, most, all) (ap (λ (ds : List ℕ). Some ds) (digits_back digits)) in
    ap digits_in h.0 ∙ made

pub imsi_counted : (digits : List ℕ) → AreImsiDigits digits → result_ok (imsi_from digits) ≡ Some digits
imsi_counted digits h =
    let least : nat_le 5 (length digits) ≡ true = le-leb 5 (length digits) h.least in
    let most : nat_le (length digits) 15 ≡ true = le-leb (length digits) 15 h.most in
    rw (least, most) refl

pub imsi_again : (text digits : List ℕ) → IsImsiNumber text digits → imsi_in text ≡ Some digits
imsi_again text digits h = rw (number_again text digits h.0) (imsi_counted digits h.1)

-- ---- octets

pub octets_again : (text : List ℕ) (n : ℕ) (octets : List ℕ) → decode_of text ≡ Ok octets → length octets ≡ n → decode_sized text n ≡ Ok octets
octets_again text n octets e len =
    let facts = decode_of-ok text octets e in
    decode_sized-twice text n (omega (arith, facts.2)) ∙ e

pub octet_again : (text : List ℕ) (c : ℕ) → IsCode text c → octet_in text ≡ Some c
octet_again text c e = ap (λ r. option_map (λ octets. slice_index octets 0) (result_ok r)) (octets_again text 1 (c ∷ []) e refl)

-- ---- lists

middle : {X : Type 0} (P : X → Type 0) (xs : List X) (y : X) (ys : List X) → AllByRecursion P (xs ++ y ∷ ys) → P y
middle P [] y ys h = h.0
middle P (x ∷ xs) y ys h = middle P xs y ys h.1

not_yet : (found : List ℕ) (c : ℕ) (cs : List ℕ) → IsDistinct nat_eq (found ++ c ∷ cs) → list_any (λ x. x == c) found ≡ false
not_yet [] c cs d = refl
not_yet (x ∷ xs) c cs d =
    or_from (x == c) (list_any (λ y. y == c) xs) (middle (λ y. nat_eq x y ≡ false) xs c cs (IsDistinct-head nat_eq x (xs ++ c ∷ cs) d))
    (not_yet xs c cs (IsDistinct-tail nat_eq x (xs ++ c ∷ cs) d))

pub codes_after_again : (found : List ℕ) (ps : List (List ℕ)) (new : List ℕ) → Each IsCode ps new → IsDistinct nat_eq (found ++ new)
    → length (found ++ new) ≤ 32 → codes_after found ps ≡ Some (found ++ new)
unfolding codes_after
codes_after_again found [] [] each d most = ap (λ (xs : List ℕ). Some xs) (sym (append-nil found))
codes_after_again found [] (c ∷ cs) each d most = absurd each
codes_after_again found (p ∷ ps) [] each d most = absurd each
codes_after_again found (p ∷ ps) (c ∷ cs) each d most =
    let code = octet_again p c each.0 in
    let fresh = not_yet found c cs d in
    let room : nat_lt (length found) 32 ≡ true = lt-ltb (length found) 32 (omega (arith, length-append found (c ∷ cs))) in
    let regroup : (found ++ c ∷ []) ++ cs ≡ found ++ c ∷ cs = append_assoc found (c ∷ []) cs in
    let rest = codes_after_again (found ++ c ∷ []) ps cs each.1 (subst (IsDistinct nat_eq) (sym regroup) d)
    (subst (λ (l : List ℕ). length l ≤ 32) (sym regroup) most) in
    rw (code, fresh, room) (rest ∙ ap (λ (xs : List ℕ). Some xs) regroup)

pub prefixes_after_again : (found : List (List ℕ)) (ps : List (List ℕ)) (new : List (List ℕ)) → Each IsNumber ps new → length (found ++ new) ≤ 8
    → prefixes_after found ps ≡ Some (found ++ new)
unfolding prefixes_after
prefixes_after_again found [] [] each most = ap (λ (xs : List (List ℕ)). Some xs) (sym (append-nil found))
prefixes_after_again found [] (c ∷ cs) each most = absurd each
prefixes_after_again found (p ∷ ps) [] each most = absurd each
prefixes_after_again found (p ∷ ps) (c ∷ cs) each most =
    let number = number_again p c each.0 in
    let room : nat_lt (length found) 8 ≡ true = lt-ltb (length found) 8 (omega (arith, length-append found (c ∷ cs))) in
    let regroup : (found ++ c ∷ []) ++ cs ≡ found ++ c ∷ cs = append_assoc found (c ∷ []) cs in
    let rest = prefixes_after_again (found ++ c ∷ []) ps cs each.1 (subst (λ (l : List (List ℕ)). length l ≤ 8) (sym regroup) most) in
    rw (number, room) (rest ∙ ap (λ (xs : List (List ℕ)). Some xs) regroup)

-- ---- a text that lacks the separator

abbrev pub Lacks : ℕ → List ℕ → Type 0
Lacks at text = AllByRecursion (λ b. (b == at) ≡ false) text

pub Lacks-append : (at : ℕ) (xs ys : List ℕ) → Lacks at xs → Lacks at ys → Lacks at (xs ++ ys)
Lacks-append at [] ys h k = k
Lacks-append at (x ∷ xs) ys h k = (h.0, Lacks-append at xs ys h.1 k)

pub parts-front : (at : ℕ) (t rest : List ℕ) → Lacks at t → parts at (t ++ at ∷ rest) ≡ t ∷ parts at rest
parts-front at [] rest h = slice_split-cons_yes (λ b. b == at) at rest (eq-eqb at at refl)
parts-front at (x ∷ t) rest h = slice_split-cons_no (λ b. b == at) x (t ++ at ∷ rest) h.0 ∙ ap (onto_first x) (parts-front at t rest h.1)

parts-only : (at : ℕ) (t : List ℕ) → Lacks at t → parts at t ≡ t ∷ []
parts-only at [] h = refl
parts-only at (x ∷ t) h = slice_split-cons_no (λ b. b == at) x t h.0 ∙ ap (onto_first x) (parts-only at t h.1)

pub parts-join : (at : ℕ) (t : List ℕ) (ts : List (List ℕ)) → AllByRecursion (Lacks at) (t ∷ ts) → parts at (join_with_byte at (t ∷ ts)) ≡ t ∷ ts
parts-join at t [] h = parts-only at t h.0
parts-join at t (u ∷ ts) h = parts-front at t (join_with_byte at (u ∷ ts)) h.0 ∙ ap (λ (ps : List (List ℕ)). t ∷ ps) (parts-join at u ts h.1)

pub Lacks-join : (at by : ℕ) (ts : List (List ℕ)) → (by == at) ≡ false → AllByRecursion (Lacks at) ts → Lacks at (join_with_byte by ts)
Lacks-join at by [] e h = tt
Lacks-join at by (t ∷ []) e h = h.0
Lacks-join at by (t ∷ u ∷ ts) e h = Lacks-append at t (by ∷ join_with_byte by (u ∷ ts)) h.0 (e, Lacks-join at by (u ∷ ts) e h.1)

pub Lacks-digits : (at : ℕ) (ds : List ℕ) → at < 48 → Lacks at (text_of ds)
Lacks-digits at [] lt = tt
Lacks-digits at (d ∷ ds) lt = (ne_eqb (d + 48) at (λ e. omega arith), Lacks-digits at ds lt)
