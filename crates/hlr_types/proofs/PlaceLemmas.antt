-- The last half octets of a word, and the digits before them.
use Rattle.std.proofs.Common.{◌≡◌, ℕ, zero, suc, ◌+◌, ◌-◌, ◌*◌, ◌/◌, ◌%◌, ◌^◌, ◌<◌, ◌≤◌, true, false, eqb, leb, ◌&&◌, List, [], ◌∷◌, length, slice_index, refl, sym, ap, ◌∙◌, arith, nat_eq}
use Rattle.std.proofs.Math.Nat.{pow-suc, mul_assoc}
use Rattle.std.proofs.lemmas.Bool.Decides.{nat_tests}
use Rattle.std.specs.declared.cmp.Ordering.{Ordering}
use Rattle.std.specs.declared.cmp.Ordering.TheVariants.{Less, Equal, Greater}
use Rattle.std.specs.Ordering.{nat_cmp, ordering_then, is_eq}
use Rattle.std.specs.Cmp.{unsigned_tied}
use Rattle.std.specs.List.{AllByRecursion, starts_with}
use Rattle.hlr_types.specs.Digits.{AreSomeDigits}
use Rattle.hlr_types.specs.Words.{packed, word_of, in_word, IsWord}
use Rattle.hlr_types.proofs.WordLemmas.{place_pos, packed_lt, above, highest}
use Rattle.hlr_types.proofs.PackLemmas.{index_each}

place : (d n : ℕ) → (d + 1) * 16 ^ suc n ≡ ((d + 1) * 16 ^ n) * 16
place d n = ap (λ p. (d + 1) * p) (pow-suc 16 n) ∙ sym (mul_assoc (d + 1) (16 ^ n) 16)

-- Without the last half octet.
pub without_last : (n : ℕ) (ds : List ℕ) → AllByRecursion (λ d. d < 10) ds → packed (suc n) ds / 16 ≡ packed n ds
without_last zero [] h = refl
without_last zero (d ∷ ds) h = omega (arith, h.0)
without_last (suc n) [] h = refl
without_last (suc n) (d ∷ ds) h = omega (arith, without_last n ds h.1, place d n)

-- The last half octet is empty exactly where there are fewer digits than half octets.
pub last_empty : (n : ℕ) (ds : List ℕ) → AllByRecursion (λ d. d < 10) ds → packed (suc n) ds % 16 ≡ 0 → length ds ≤ n
last_empty zero [] h e = omega arith
last_empty zero (d ∷ ds) h e = absurd (omega (arith, h.0, e))
last_empty (suc n) [] h e = omega arith
last_empty (suc n) (d ∷ ds) h e = let p = place d n in let r = last_empty n ds h.1 (omega (arith, e, p)) in omega (arith, r)

pub last_full : (n : ℕ) (ds : List ℕ) → AllByRecursion (λ d. d < 10) ds → 0 < packed (suc n) ds % 16 → n < length ds
last_full zero [] h e = absurd (omega (arith, e))
last_full zero (d ∷ ds) h e = omega arith
last_full (suc n) [] h e = absurd (omega (arith, e))
last_full (suc n) (d ∷ ds) h e = let p = place d n in let r = last_full n ds h.1 (omega (arith, e, p)) in omega (arith, r)

pub packed_next : (i : ℕ) (ds : List ℕ) → i < length ds → packed (suc i) ds ≡ packed i ds * 16 + (slice_index ds i + 1)
packed_next i [] len = absurd (omega arith)
packed_next zero (d ∷ ds) len = omega arith
packed_next (suc i) (d ∷ ds) len = omega (arith, packed_next i ds (omega (arith, len)), place d i)

packed_pos : (n : ℕ) (ds : List ℕ) → 0 < length ds → 0 < packed (suc n) ds
packed_pos n [] len = absurd (omega arith)
packed_pos n (d ∷ ds) len = above d (16 ^ n) (packed n ds) (place_pos n)

-- ---- the number of the digits, and of a prefix

-- Both are shifted down by as many empty half octets of the prefix.
pub record AreShifted (start rest : ℕ) (digits prefix : List ℕ) : Type 0 where
  pub all : AreSomeDigits digits
  pub some : AreSomeDigits prefix
  pub places : ℕ
  pub room : length prefix ≤ places
  pub first : start ≡ packed places digits
  pub last : rest ≡ packed places prefix

pub record AreFurther (start rest : ℕ) (digits prefix : List ℕ) : Type 0 where
  pub smaller : rest / 16 < rest
  pub next : AreShifted (start / 16) (rest / 16) digits prefix

further-by : (places start rest : ℕ) (ds ps : List ℕ) → length ps ≤ places → start ≡ packed places ds → rest ≡ packed places ps
    → AreSomeDigits ds → AreSomeDigits ps → rest % 16 ≡ 0 → AreFurther start rest ds ps
further-by zero start rest ds ps room s r all some e = absurd (omega (arith, room, some.some))
further-by (suc n) start rest ds ps room s r all some e =
    let pos : 0 < rest = omega (arith, r, packed_pos n ps some.some) in
    record {
      smaller = omega (arith, pos);
      next = record {
        all = all;
        some = some;
        places = n;
        room = last_empty n ps some.each (ap (λ w. w % 16) (sym r) ∙ e);
        first = ap (λ w. w / 16) s ∙ without_last n ds all.each;
        last = ap (λ w. w / 16) r ∙ without_last n ps some.each;
      };
    }

pub further : (start rest : ℕ) (ds ps : List ℕ) → AreShifted start rest ds ps → rest % 16 ≡ 0 → AreFurther start rest ds ps
further start rest ds ps are e = further-by are.places start rest ds ps are.room are.first are.last are.all are.some e

pub record AreNumbers (start rest : ℕ) (digits prefix : List ℕ) : Type 0 where
  pub first : start ≡ packed (length prefix) digits
  pub last : rest ≡ packed (length prefix) prefix

last-by : (places start rest : ℕ) (ds ps : List ℕ) → length ps ≤ places → start ≡ packed places ds → rest ≡ packed places ps
    → AreSomeDigits ps → 0 < rest % 16 → AreNumbers start rest ds ps
last-by zero start rest ds ps room s r some e = absurd (omega (arith, room, some.some))
last-by (suc n) start rest ds ps room s r some e =
    let full = last_full n ps some.each (omega (arith, ap (λ w. w % 16) r, e)) in
    let count : suc n ≡ length ps = omega (arith, full, room) in
    record { first = s ∙ ap (λ j. packed j ds) count; last = r ∙ ap (λ j. packed j ps) count }

pub pos : (x : ℕ) → (x ≡ 0 → ⊥) → 0 < x
pos zero n = absurd (n refl)
pos (suc x) n = omega arith

pub at_last : (start rest : ℕ) (ds ps : List ℕ) → AreShifted start rest ds ps → (rest % 16 ≡ 0 → ⊥) → AreNumbers start rest ds ps
at_last start rest ds ps are n = last-by are.places start rest ds ps are.room are.first are.last are.some (pos (rest % 16) n)

pub not_shifted : (v w : ℕ) → IsWord v → IsWord w → AreShifted v w (in_word v) (in_word w)
unfolding word_of
not_shifted v w hv hw = record { all = hv.digits; some = hw.digits; places = 16; room = hw.digits.most; first = sym hv.whole; last = sym hw.whole }

is_eq-then : (a b : Ordering) → is_eq (ordering_then a b) ≡ (is_eq a && is_eq b)
is_eq-then Less b = refl
is_eq-then Equal b = refl
is_eq-then Greater b = refl

-- The first digits are the prefix exactly where their numbers are one.
pub begins : (ds ps : List ℕ) → AllByRecursion (λ d. d < 10) ds → AllByRecursion (λ d. d < 10) ps
    → eqb (packed (length ps) ps) (packed (length ps) ds) ≡ starts_with nat_eq ds ps
begins ds [] hd hp = refl
begins [] (p ∷ ps) hd hp = let pos = above p (16 ^ length ps) (packed (length ps) ps) (place_pos (length ps)) in grind (arith, nat_tests)
begins (d ∷ ds) (p ∷ ps) hd hp =
    let n = length ps in
    sym (unsigned_tied (packed (suc n) (p ∷ ps)) (packed (suc n) (d ∷ ds)))
    ∙ ap is_eq (highest (16 ^ n) p d (packed n ps) (packed n ds) (packed_lt n ps hp.1) (packed_lt n ds hd.1))
    ∙ is_eq-then (nat_cmp p d) (nat_cmp (packed n ps) (packed n ds))
    ∙ ap (λ b. b && is_eq (nat_cmp (packed n ps) (packed n ds))) (unsigned_tied p d)
    ∙ ap (λ b. eqb p d && b) (unsigned_tied (packed n ps) (packed n ds) ∙ begins ds ps hd.1 hp.1)

pub same_numbers : (start rest : ℕ) (ds ps : List ℕ) → AreShifted start rest ds ps → (rest % 16 ≡ 0 → ⊥) → eqb rest start ≡ starts_with nat_eq ds ps
same_numbers start rest ds ps are n =
    let numbers = at_last start rest ds ps are n in
    ap (λ x. eqb x start) numbers.last ∙ ap (eqb (packed (length ps) ps)) numbers.first ∙ begins ds ps are.all.each are.some.each

pub ruleset prefix_laws = (further, not_shifted)

-- ---- the last two digits

pub record AreLastTwo (number : ℕ) (digits : List ℕ) : Type 0 where
  pub low : number % 16 ≡ slice_index digits (length digits - 1) + 1
  pub high : number / 16 % 16 ≡ slice_index digits (length digits - 2) + 1
  pub small_low : slice_index digits (length digits - 1) < 10
  pub small_high : slice_index digits (length digits - 2) < 10

pub last_two : (number : ℕ) (ds : List ℕ) → AreSomeDigits ds → 2 ≤ length ds → number ≡ packed (length ds) ds → AreLastTwo number ds
last_two number ds some two e =
    let j = length ds - 1 in
    let i = length ds - 2 in
    let sj : length ds ≡ suc j = omega (arith, two) in
    let si : j ≡ suc i = omega (arith, two) in
    let low = ap (λ n. packed n ds) sj ∙ packed_next j ds (omega (arith, two)) in
    let high = ap (λ n. packed n ds) si ∙ packed_next i ds (omega (arith, two)) in
    let a = index_each j ds (omega (arith, two)) some.each in
    let b = index_each i ds (omega (arith, two)) some.each in
    record { low = omega (arith, e, low, a); high = omega (arith, e, low, high, a, b); small_low = a; small_high = b }

-- ---- the count of an IMSI

pub at_most : (w : ℕ) → IsWord w → eqb (w % 16) 0 ≡ leb (length (in_word w)) 15
unfolding word_of
at_most w is =
    let ds = in_word w in
    let empty : w % 16 ≡ 0 → length ds ≤ 15 = λ e. last_empty 15 ds is.digits.each (ap (λ x. x % 16) is.whole ∙ e) in
    let full : 0 < w % 16 → 15 < length ds = λ e. last_full 15 ds is.digits.each (omega (arith, ap (λ x. x % 16) is.whole, e)) in
    by_half (w % 16) empty full
  where
    by_half : (h : ℕ) → (h ≡ 0 → length (in_word w) ≤ 15) → (0 < h → 15 < length (in_word w)) → eqb h 0 ≡ leb (length (in_word w)) 15
    by_half zero few many = let r = few refl in grind (arith, nat_tests)
    by_half (suc h) few many = let r = many (omega arith) in grind (arith, nat_tests)

at_least-by : (ds : List ℕ) → AllByRecursion (λ d. d < 10) ds → eqb (word_of ds / 2 ^ 44 % 16) 0 ≡ leb (length ds) 4
unfolding word_of
at_least-by [] h = refl
at_least-by (a ∷ []) h = let e : word_of (a ∷ []) / 2 ^ 44 % 16 ≡ 0 = omega (arith, h.0) in rw e refl
at_least-by (a ∷ b ∷ []) h = let e : word_of (a ∷ b ∷ []) / 2 ^ 44 % 16 ≡ 0 = omega (arith, h.0, h.1.0) in rw e refl
at_least-by (a ∷ b ∷ c ∷ []) h = let e : word_of (a ∷ b ∷ c ∷ []) / 2 ^ 44 % 16 ≡ 0 = omega (arith) in rw e refl
at_least-by (a ∷ b ∷ c ∷ d ∷ []) h = let e : word_of (a ∷ b ∷ c ∷ d ∷ []) / 2 ^ 44 % 16 ≡ 0 = omega (arith) in rw e refl
at_least-by (a ∷ b ∷ c ∷ d ∷ x ∷ ds) h =
    let s = packed_lt 11 ds h.1.1.1.1.1 in
    let e : word_of (a ∷ b ∷ c ∷ d ∷ x ∷ ds) / 2 ^ 44 % 16 ≡ x + 1 = omega (arith, s, h.1.1.1.1.0) in
    let many : leb (5 + length ds) 4 ≡ false = grind (arith, nat_tests) in
    rw e (grind (arith, nat_tests))

pub at_least : (w : ℕ) → IsWord w → eqb (w / 2 ^ 44 % 16) 0 ≡ leb (length (in_word w)) 4
at_least w is = ap (λ x. eqb (x / 2 ^ 44 % 16) 0) (sym is.whole) ∙ at_least-by (in_word w) is.digits.each

pub imsi_count : (w : ℕ) → IsWord w → (w / 2 ^ 44 % 16 ≡ 0 → ⊥) → eqb (w % 16) 0 ≡ (leb 5 (length (in_word w)) && leb (length (in_word w)) 15)
imsi_count w is n =
    let e = pos (w / 2 ^ 44 % 16) n in
    let few = at_least w is in
    let many : leb 5 (length (in_word w)) ≡ true = grind (arith, nat_tests) in
    rw many (at_most w is)

pub ruleset count_laws = (at_most, at_least)
