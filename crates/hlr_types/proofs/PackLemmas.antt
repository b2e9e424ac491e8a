-- A word grows by a digit at its low end, and loses one at its high end.
use Rattle.std.proofs.Common.{◌≡◌, ℕ, zero, suc, ◌+◌, ◌-◌, ◌*◌, ◌/◌, ◌%◌, ◌^◌, ◌<◌, ◌≤◌, List, [], ◌∷◌, length, take, ◌++◌, append_assoc, append-nil, length-append, slice_index, refl, sym, ap, ◌∙◌, subst, arith}
use Rattle.std.proofs.Math.Nat.{pow-suc, mul_assoc, pow-le-pow_right}
use Rattle.std.proofs.lemmas.Nat.{div-mul-add}
use Rattle.std.proofs.lemmas.List.{take_all}
use Rattle.std.specs.List.{AllByRecursion}
use Rattle.hlr_types.specs.Tbcd.{tbcd}
use Rattle.hlr_types.specs.Digits.{AreSomeDigits}
use Rattle.hlr_types.specs.Words.{packed, word_of, in_word, IsWord}
use Rattle.hlr_types.proofs.WordLemmas.{place_pos, packed_lt, above, is_word, in_word-word_of}

pub take_each : (n : ℕ) (ds : List ℕ) → AllByRecursion (λ d. d < 10) ds → AllByRecursion (λ d. d < 10) (take n ds)
take_each zero ds h = tt
take_each (suc n) [] h = tt
take_each (suc n) (d ∷ ds) h = (h.0, take_each n ds h.1)

pub index_each : (n : ℕ) (ds : List ℕ) → n < length ds → AllByRecursion (λ d. d < 10) ds → slice_index ds n < 10
index_each n [] len h = absurd (omega arith)
index_each zero (d ∷ ds) len h = h.0
index_each (suc n) (d ∷ ds) len h = index_each n ds (omega (arith, len)) h.1

-- A digit more at the low end.
pub packed_more : (i : ℕ) (ds : List ℕ) → i < length ds → packed (suc i) (take (suc i) ds) ≡ packed i (take i ds) * 16 + (slice_index ds i + 1)
packed_more i [] len = absurd (omega arith)
packed_more zero (d ∷ ds) len = omega arith
packed_more (suc i) (d ∷ ds) len =
    let e = packed_more i ds (omega (arith, len)) in
    let p : (d + 1) * 16 ^ suc i ≡ ((d + 1) * 16 ^ i) * 16 = ap (λ p. (d + 1) * p) (pow-suc 16 i) ∙ sym (mul_assoc (d + 1) (16 ^ i) 16) in
    omega (arith, e, p)

-- The same of a list that grows, as TBCD is read.
pub packed_snoc : (ds : List ℕ) (d : ℕ) → packed (suc (length ds)) (ds ++ d ∷ []) ≡ packed (length ds) ds * 16 + (d + 1)
packed_snoc [] d = omega arith
packed_snoc (x ∷ ds) d =
    let e = packed_snoc ds d in
    let p : (x + 1) * 16 ^ suc (length ds) ≡ ((x + 1) * 16 ^ length ds) * 16 =
    ap (λ p. (x + 1) * p) (pow-suc 16 (length ds)) ∙ sym (mul_assoc (x + 1) (16 ^ length ds) 16) in
    omega (arith, e, p)

-- Digits in fewer half octets than there are.
pub packed_small : (n : ℕ) (ds : List ℕ) → n ≤ 15 → AllByRecursion (λ d. d < 10) ds → packed n ds < 16 ^ 15
packed_small n ds le h =
    let p : 16 ^ n ≤ 16 ^ 15 = pow-le-pow_right (omega arith) le in
    omega (arith, p, packed_lt n ds h)

-- One half octet more, which is empty.
pub packed_wide : (n : ℕ) (ds : List ℕ) → length ds ≤ n → packed (suc n) ds ≡ packed n ds * 16
packed_wide zero [] len = refl
packed_wide zero (d ∷ ds) len = absurd (omega arith)
packed_wide (suc n) [] len = refl
packed_wide (suc n) (d ∷ ds) len =
    let e = packed_wide n ds (omega (arith, len)) in
    let p : (d + 1) * 16 ^ suc n ≡ ((d + 1) * 16 ^ n) * 16 = ap (λ p. (d + 1) * p) (pow-suc 16 n) ∙ sym (mul_assoc (d + 1) (16 ^ n) 16) in
    omega (arith, e, p)

pub packed_wider : (k n : ℕ) (ds : List ℕ) → length ds ≤ n → packed (k + n) ds ≡ packed n ds * 2 ^ (4 * k)
packed_wider zero n ds len =
    let z : 0 + n ≡ n = omega arith in
    ap (λ j. packed j ds) z ∙ omega arith
packed_wider (suc k) n ds len =
    let e = packed_wider k n ds len in
    let w = packed_wide (k + n) ds (omega (arith, len)) in
    let p : 2 ^ (4 * suc k) ≡ 2 ^ (4 * k) * 16 = pow_four k in
    let q : packed n ds * (2 ^ (4 * k) * 16) ≡ (packed n ds * 2 ^ (4 * k)) * 16 = sym (mul_assoc (packed n ds) (2 ^ (4 * k)) 16) in
    let s : suc k + n ≡ suc (k + n) = omega arith in
    ap (λ j. packed j ds) s ∙ w ∙ ap (λ x. x * 16) e ∙ sym q ∙ ap (λ x. packed n ds * x) (sym p)
  where
    pow_four : (k : ℕ) → 2 ^ (4 * suc k) ≡ 2 ^ (4 * k) * 16
    pow_four k =
        let e : 4 * suc k ≡ suc (suc (suc (suc (4 * k)))) = omega arith in
        ap (λ m. 2 ^ m) e ∙ omega (arith, pow-suc 2 (4 * k), pow-suc 2 (suc (4 * k)), pow-suc 2 (suc (suc (4 * k))), pow-suc 2 (suc (suc (suc (4 * k)))))

-- The number made of the digits in so many half octets, shifted up to the high end, is their word.
pub shifted_at : (n : ℕ) (ds : List ℕ) → AreSomeDigits ds → length ds ≤ n → n ≤ 16 → packed n ds * 2 ^ (64 - 4 * n) % 2 ^ 64 ≡ word_of ds
unfolding word_of
shifted_at n ds some len most =
    let k : 4 * (16 - n) ≡ 64 - 4 * n = omega (arith, most) in
    let m : (16 - n) + n ≡ 16 = omega (arith, most) in
    let e : packed 16 ds ≡ packed n ds * 2 ^ (64 - 4 * n) =
    ap (λ j. packed j ds) (sym m) ∙ packed_wider (16 - n) n ds len ∙ ap (λ j. packed n ds * 2 ^ j) k in
    ap (λ w. w % 2 ^ 64) (sym e) ∙ omega (arith, packed_lt 16 ds some.each)

pub record IsWordOf (w : ℕ) (digits : List ℕ) : Type 0 where
  pub value : in_word w ≡ digits
  pub word : IsWord w

pub is_word_of : (w : ℕ) (ds : List ℕ) → AreSomeDigits ds → w ≡ word_of ds → IsWordOf w ds
is_word_of w ds are e = record { value = ap in_word e ∙ in_word-word_of ds are; word = subst IsWord (sym e) (is_word ds are) }

-- ---- from the high end

pub first_digit : (d : ℕ) (ds : List ℕ) → AllByRecursion (λ d. d < 10) ds → word_of (d ∷ ds) / 2 ^ 60 ≡ d + 1
unfolding word_of
first_digit d ds h = div-mul-add (d + 1) (16 ^ 15) (packed 15 ds) (packed_lt 15 ds h)

pub other_digits : (d : ℕ) (ds : List ℕ) → length ds ≤ 15 → AllByRecursion (λ d. d < 10) ds → word_of (d ∷ ds) * 16 % 2 ^ 64 ≡ word_of ds
unfolding word_of
other_digits d ds len h =
    let e = packed_wide 15 ds len in
    let s = packed_lt 15 ds h in
    omega (arith, e, s)

pub no_digits : word_of [] ≡ 0
unfolding word_of
no_digits = refl

pub word_pos : (d : ℕ) (ds : List ℕ) → 0 < word_of (d ∷ ds)
unfolding word_of
word_pos d ds = above d (16 ^ 15) (packed 15 ds) (place_pos 15)

-- What is left of all the digits is in the rest of the word.
pub record IsLeft (rest : ℕ) (found all : List ℕ) : Type 0 where
  pub left : List ℕ
  pub whole : found ++ left ≡ all
  pub word : rest ≡ word_of left

pub record IsNext (rest : ℕ) (found all : List ℕ) : Type 0 where
  pub least : 1 ≤ rest / 2 ^ 60
  pub most : rest / 2 ^ 60 ≤ 10
  pub room : length found < 16
  pub next : IsLeft (rest * 16 % 2 ^ 64) (found ++ (rest / 2 ^ 60 - 1) ∷ []) all

each_right : (xs ys : List ℕ) → AllByRecursion (λ d. d < 10) (xs ++ ys) → AllByRecursion (λ d. d < 10) ys
each_right [] ys h = h
each_right (x ∷ xs) ys h = each_right xs ys h.1

next-by : (rest : ℕ) (found all left : List ℕ) → found ++ left ≡ all → rest ≡ word_of left → AreSomeDigits all → 0 < rest → IsNext rest found all
next-by rest found all [] whole word some pos = absurd (omega (arith, pos, word, no_digits))
next-by rest found all (d ∷ ds) whole word some pos =
    let each : AllByRecursion (λ d. d < 10) (d ∷ ds) = each_right found (d ∷ ds) (subst (AllByRecursion (λ d. d < 10)) (sym whole) some.each) in
    let len : length found + suc (length ds) ≡ length all = sym (length-append found (d ∷ ds)) ∙ ap length whole in
    let few : length ds ≤ 15 = omega (arith, len, some.most) in
    let first : rest / 2 ^ 60 ≡ d + 1 = ap (λ w. w / 2 ^ 60) word ∙ first_digit d ds each.1 in
    let other : rest * 16 % 2 ^ 64 ≡ word_of ds = ap (λ w. w * 16 % 2 ^ 64) word ∙ other_digits d ds few each.1 in
    let same : rest / 2 ^ 60 - 1 ≡ d = omega (arith, first) in
    record {
      least = omega (arith, first);
      most = omega (arith, first, each.0);
      room = omega (arith, len, some.most);
      next = record {
        left = ds;
        whole = append_assoc found ((rest / 2 ^ 60 - 1) ∷ []) ds ∙ ap (λ x. found ++ x ∷ ds) same ∙ whole;
        word = other;
      };
    }

pub next : (rest : ℕ) (found all : List ℕ) → IsLeft rest found all → AreSomeDigits all → 0 < rest → IsNext rest found all
next rest found all is some pos = next-by rest found all is.left is.whole is.word some pos

none-left-by : (found all left : List ℕ) → found ++ left ≡ all → 0 ≡ word_of left → found ≡ all
none-left-by found all [] whole word = sym (append-nil found) ∙ whole
none-left-by found all (d ∷ ds) whole word = absurd (omega (arith, word, word_pos d ds))

pub none_left : (rest : ℕ) (found all : List ℕ) → IsLeft rest found all → rest ≡ 0 → found ≡ all
none_left rest found all is e = none-left-by found all is.left is.whole (sym e ∙ is.word)

pub all_left : (w : ℕ) → IsWord w → IsLeft w [] (in_word w)
all_left w is = record { left = in_word w; whole = refl; word = sym is.whole }

-- The number grows, and fits.
pub number_small : (i number : ℕ) (ds : List ℕ) → AreSomeDigits ds → number ≡ packed i (take i ds) → i < length ds → number < 16 ^ 15
number_small i number ds some e lt = omega (arith, e, packed_small i (take i ds) (omega (arith, lt, some.most)) (take_each i ds some.each))

pub shifted_whole : (i number : ℕ) (ds : List ℕ) → AreSomeDigits ds → number ≡ packed i (take i ds) → i ≤ length ds → length ds ≤ i
    → number * 2 ^ (64 - 4 * length ds) % 2 ^ 64 ≡ word_of ds
shifted_whole i number ds some e le ge =
    let same : i ≡ length ds = omega (arith, le, ge) in
    let all : packed i (take i ds) ≡ packed (length ds) ds = ap (packed i) (take_all i ds ge) ∙ ap (λ j. packed j ds) same in
    ap (λ n. n * 2 ^ (64 - 4 * length ds) % 2 ^ 64) (e ∙ all) ∙ shifted_at (length ds) ds some (omega arith) some.most

pub ruleset unpack_laws = (next, none_left, all_left)

-- ---- written as TBCD

-- What is left of all the digits is in the rest of the word, and the octets are those of the others.
pub record IsUnwritten (rest : ℕ) (octets all : List ℕ) : Type 0 where
  pub left : List ℕ
  pub some : AllByRecursion (λ d. d < 10) left
  pub count : 2 * length octets + length left ≤ 16
  pub whole : octets ++ tbcd left ≡ tbcd all
  pub word : rest ≡ word_of left

-- the octet of two half octets, each a digit plus one: modulo 256 the 0 of no digit becomes the filler
abbrev pub octet_of : ℕ → ℕ
octet_of pair = (pair % 16 * 16 + pair / 16 + 239) % 256

pub record IsPair (rest : ℕ) (octets all : List ℕ) : Type 0 where
  pub room : length octets < 8
  pub next : IsUnwritten (rest * 256 % 2 ^ 64) (octets ++ octet_of (rest / 2 ^ 56) ∷ []) all

pair-by : (rest : ℕ) (octets all left : List ℕ) → AllByRecursion (λ d. d < 10) left → 2 * length octets + length left ≤ 16 → octets ++ tbcd left ≡ tbcd all
    → rest ≡ word_of left → 0 < rest → IsPair rest octets all
pair-by rest octets all [] each count whole word pos = absurd (omega (arith, pos, word, no_digits))
pair-by rest octets all (d ∷ []) each count whole word pos =
    let first : rest / 2 ^ 60 ≡ d + 1 = ap (λ w. w / 2 ^ 60) word ∙ first_digit d [] tt in
    let other : rest * 16 % 2 ^ 64 ≡ 0 = ap (λ w. w * 16 % 2 ^ 64) word ∙ other_digits d [] (omega arith) tt ∙ no_digits in
    let halves : rest / 2 ^ 56 ≡ (d + 1) * 16 = omega (arith, first, other) in
    let octet : octet_of (rest / 2 ^ 56) ≡ d + 16 * 15 = omega (arith, halves, each.0) in
    record {
      room = omega (arith, count);
      next = record {
        left = [];
        some = tt;
        count = omega (arith, count, length-append octets (octet_of (rest / 2 ^ 56) ∷ []));
        whole = append-nil _ ∙ ap (λ x. octets ++ x ∷ []) octet ∙ whole;
        word = omega (arith, other) ∙ sym no_digits;
      };
    }
pair-by rest octets all (d ∷ e ∷ ds) each count whole word pos =
    let few : length ds ≤ 14 = omega (arith, count) in
    let first : rest / 2 ^ 60 ≡ d + 1 = ap (λ w. w / 2 ^ 60) word ∙ first_digit d (e ∷ ds) each.1 in
    let other : rest * 16 % 2 ^ 64 ≡ word_of (e ∷ ds) = ap (λ w. w * 16 % 2 ^ 64) word ∙ other_digits d (e ∷ ds) (omega (arith, few)) each.1 in
    let second : rest * 16 % 2 ^ 64 / 2 ^ 60 ≡ e + 1 = ap (λ w. w / 2 ^ 60) other ∙ first_digit e ds each.1.1 in
    let halves : rest / 2 ^ 56 ≡ (d + 1) * 16 + (e + 1) = omega (arith, first, second) in
    let octet : octet_of (rest / 2 ^ 56) ≡ d + 16 * e = omega (arith, halves, each.0, each.1.0) in
    let shifted : rest * 256 % 2 ^ 64 ≡ rest * 16 % 2 ^ 64 * 16 % 2 ^ 64 = omega arith in
    record {
      room = omega (arith, count);
      next = record {
        left = ds;
        some = each.1.1;
        count = omega (arith, count, length-append octets (octet_of (rest / 2 ^ 56) ∷ []));
        whole = append_assoc octets _ (tbcd ds) ∙ ap (λ x. octets ++ x ∷ tbcd ds) octet ∙ whole;
        word = shifted ∙ ap (λ w. w * 16 % 2 ^ 64) other ∙ other_digits e ds (omega (arith, few)) each.1.1;
      };
    }

pub pair : (rest : ℕ) (octets all : List ℕ) → IsUnwritten rest octets all → 0 < rest → IsPair rest octets all
pair rest octets all is pos = pair-by rest octets all is.left is.some is.count is.whole is.word pos

none-unwritten-by : (octets all left : List ℕ) → octets ++ tbcd left ≡ tbcd all → 0 ≡ word_of left → octets ≡ tbcd all
none-unwritten-by octets all [] whole word = sym (append-nil octets) ∙ whole
none-unwritten-by octets all (d ∷ ds) whole word = absurd (omega (arith, word, word_pos d ds))

pub none_unwritten : (rest : ℕ) (octets all : List ℕ) → IsUnwritten rest octets all → rest ≡ 0 → octets ≡ tbcd all
none_unwritten rest octets all is e = none-unwritten-by octets all is.left is.whole (sym e ∙ is.word)

pub all_unwritten : (w : ℕ) → IsWord w → IsUnwritten w [] (in_word w)
all_unwritten w is = record { left = in_word w; some = is.digits.each; count = omega (arith, is.digits.most); whole = refl; word = sym is.whole }

pub ruleset write_laws = (pair, none_unwritten, all_unwritten)
