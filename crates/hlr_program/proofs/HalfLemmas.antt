-- A script that is checked by halves.
use Rattle.std.proofs.Common.{◌≡◌, ℕ, zero, suc, ◌+◌, ◌<◌, arith, List, [], ◌∷◌, ◌++◌, add-one, length, take, drop, get_or, refl, sym, ap, ap₂, subst, ◌∙◌, inl, inr}
use Rattle.std.specs.Prelude.{◌==◌}
use Rattle.std.specs.List.{AllByRecursion, onto_first}
use Rattle.std.proofs.lemmas.Bool.{cases_Bool, eq-eqb}
use Rattle.std.proofs.lemmas.List.{append-nil, drop_all, length-append, take-append-drop, take_all, take_more}
use Rattle.std.proofs.lemmas.List.Splits.{slice_split-cons_yes, slice_split-cons_no}
use Rattle.texts.specs.Lines.{lines, parts, without_empty_last}
use Rattle.texts.proofs.LinesLemmas.{lines_nil}
use Rattle.texts.proofs.PartsLemmas.{parts_cons}
use Rattle.hlr_program.specs.Batches.{IsBad, IsFirst, IsGood}
use Rattle.hlr_program.specs.Checked.{IsFirstBad, IsSeen}
use Rattle.hlr_program.specs.declared.check.Seen.{Seen}

-- ---- the lines of a text that is cut after a line feed

onto_join : (x : ℕ) (ps qs : List (List ℕ)) (first : List ℕ) (more : List (List ℕ)) → ps ≡ first ∷ more → onto_first x (ps ++ qs) ≡ onto_first x ps ++ qs
onto_join x ps qs first more is = rw is refl

parts_join : (at : ℕ) (xs ys : List ℕ) → parts at (xs ++ at ∷ ys) ≡ parts at xs ++ parts at ys
parts_join at [] ys = slice_split-cons_yes (λ b. b == at) at ys (eq-eqb at at refl)
parts_join at (x ∷ xs) ys = elim (cases_Bool (x == at)) [
  | inl here ↦ slice_split-cons_yes (λ b. b == at) x (xs ++ at ∷ ys) here ∙ ap (λ (ps : List (List ℕ)). [] ∷ ps) (parts_join at xs ys)
      ∙ ap (λ (ps : List (List ℕ)). ps ++ parts at ys) (sym (slice_split-cons_yes (λ b. b == at) x xs here))
  | inr other ↦ let p = parts_cons at xs in
      slice_split-cons_no (λ b. b == at) x (xs ++ at ∷ ys) other ∙ ap (onto_first x) (parts_join at xs ys)
      ∙ onto_join x (parts at xs) (parts at ys) p.0 p.1 p.2
      ∙ ap (λ (ps : List (List ℕ)). ps ++ parts at ys) (sym (slice_split-cons_no (λ b. b == at) x xs other))
]

last_join : (ps : List (List ℕ)) (q : List ℕ) (qs : List (List ℕ)) → without_empty_last (ps ++ q ∷ qs) ≡ ps ++ without_empty_last (q ∷ qs)
last_join [] q qs = refl
last_join (p ∷ []) q qs = refl
last_join (p ∷ r ∷ ps) q qs = ap (λ (ls : List (List ℕ)). p ∷ ls) (last_join (r ∷ ps) q qs)

lines_join : (xs ys : List ℕ) → lines (xs ++ 10 ∷ ys) ≡ parts 10 xs ++ lines ys
unfolding lines
lines_join xs ys =
    let p = parts_cons 10 ys in
    ap without_empty_last (parts_join 10 xs ys ∙ ap (λ (ps : List (List ℕ)). parts 10 xs ++ ps) p.2) ∙ last_join (parts 10 xs) p.0 p.1
    ∙ ap (λ (ps : List (List ℕ)). parts 10 xs ++ without_empty_last ps) (sym p.2)

lines_ended : (xs : List ℕ) → lines (xs ++ 10 ∷ []) ≡ parts 10 xs
lines_ended xs = lines_join xs [] ∙ ap (λ (ls : List (List ℕ)). parts 10 xs ++ ls) lines_nil ∙ append-nil (parts 10 xs)

cut_before : (text : List ℕ) (i : ℕ) → i < length text → text ≡ take i text ++ get_or text i 0 ∷ drop (suc i) text
cut_before [] i low = absurd (omega arith)
cut_before (x ∷ text) zero low = refl
cut_before (x ∷ text) (suc i) low = ap (λ (l : List ℕ). x ∷ l) (cut_before text i (omega arith))

cut_at : (text : List ℕ) (i : ℕ) → i < length text → text ≡ take i text ++ get_or text i 0 ∷ drop (i + 1) text
cut_at text i low = rw add-one (cut_before text i low)

pub lines_cut : (text : List ℕ) (i : ℕ) → i < length text → get_or text i 0 ≡ 10
    → lines text ≡ lines (take (i + 1) text) ++ lines (drop (i + 1) text)
lines_cut text i low here =
    let whole : text ≡ take i text ++ 10 ∷ drop (i + 1) text = cut_at text i low ∙ ap (λ (x : ℕ). take i text ++ x ∷ drop (i + 1) text) here in
    let front : take (i + 1) text ≡ take i text ++ 10 ∷ [] = take_more text i 0 low ∙ ap (λ (x : ℕ). take i text ++ x ∷ []) here in
    ap lines whole ∙ lines_join (take i text) (drop (i + 1) text)
    ∙ ap (λ (ls : List (List ℕ)). ls ++ lines (drop (i + 1) text)) (sym (lines_ended (take i text)) ∙ ap lines (sym front))

-- a text that is not cut
pub lines_whole : (text : List ℕ) → lines text ≡ lines (take (length text) text) ++ lines (drop (length text) text)
lines_whole text =
    sym (append-nil (lines text)) ∙ ap₂ (λ (front back : List (List ℕ)). front ++ back) (ap lines (sym (take_all (length text) text (omega arith))))
    (sym (ap lines (drop_all (length text) text (omega arith)) ∙ lines_nil))

-- ---- what both halves say

module _ (Good Bad : List ℕ → Type 0) where
  first_before : (xs ys : List (List ℕ)) (before n : ℕ) → IsFirst Good Bad xs before n → IsFirst Good Bad (xs ++ ys) before n
  first_before [] ys before n h = absurd h
  first_before (x ∷ xs) ys before n (inl here) = inl here
  first_before (x ∷ xs) ys before n (inr later) = inr (later.0, first_before xs ys (before + 1) n later.1)

  first_moved : (ys : List (List ℕ)) (k before n : ℕ) → IsFirst Good Bad ys before n → IsFirst Good Bad ys (k + before) (k + n)
  first_moved [] k before n h = absurd h
  first_moved (y ∷ ys) k before n (inl here) = inl (omega (arith, here.0), here.1)
  first_moved (y ∷ ys) k before n (inr later) =
      let moved : k + (before + 1) ≡ k + before + 1 = omega arith in
      inr (later.0, subst (λ (b : ℕ). IsFirst Good Bad ys b (k + n)) moved (first_moved ys k (before + 1) n later.1))

  first_behind : (xs ys : List (List ℕ)) (before n : ℕ) → AllByRecursion Good xs → IsFirst Good Bad ys (before + length xs) n
      → IsFirst Good Bad (xs ++ ys) before n
  first_behind [] ys before n all h = let same : before + 0 ≡ before = omega arith in subst (λ (b : ℕ). IsFirst Good Bad ys b n) same h
  first_behind (x ∷ xs) ys before n all h =
      let moved : before + length (x ∷ xs) ≡ before + 1 + length xs = omega arith in
      inr (all.0, first_behind xs ys (before + 1) n all.1 (subst (λ (b : ℕ). IsFirst Good Bad ys b n) moved h))

-- The two texts that a text is cut into, between two lines.
pub record AreHalves (text front back : List ℕ) : Type 0 where
  pub lines_are : lines text ≡ lines front ++ lines back
  pub long : length text ≡ length front + length back

pub halves_of : (text front back : List ℕ) (n : ℕ) → lines text ≡ lines (take n text) ++ lines (drop n text) → front ≡ take n text → back ≡ drop n text
    → AreHalves text front back
halves_of text front back n cut front_is back_is = record {
  lines_are = cut ∙ ap₂ (λ (x y : List ℕ). lines x ++ lines y) (sym front_is) (sym back_is);
  long = ap length (sym (take-append-drop n text)) ∙ length-append (take n text) (drop n text) ∙ ap₂ ◌+◌ (ap length (sym front_is)) (ap length (sym back_is));
}

pub first_is_bad : (text front back : List ℕ) (n : ℕ) → AreHalves text front back → IsFirstBad front n → IsFirstBad text n
first_is_bad text front back n halves h = record {
  first = subst (λ (ls : List (List ℕ)). IsFirst IsGood IsBad ls 0 n) (sym halves.lines_are) (first_before IsGood IsBad (lines front) (lines back) 0 n h.first);
  within = let x = h.within in let z = halves.long in omega (arith, x, z);
}

pub second_is_bad : (text front back : List ℕ) (a : Seen) (n number : ℕ) → AreHalves text front back → IsSeen front a → IsFirstBad back n
    → number ≡ a.lines + n → IsFirstBad text number
second_is_bad text front back a n number halves h k is = record {
  first = subst (λ (ls : List (List ℕ)). IsFirst IsGood IsBad ls 0 number) (sym halves.lines_are)
      (first_behind IsGood IsBad (lines front) (lines back) 0 number h.forms.good
      (subst (λ (p : ℕ × ℕ). IsFirst IsGood IsBad (lines back) p.0 p.1) (λ i. (begins i, (sym is) i))
      (first_moved IsGood IsBad (lines back) a.lines 0 n k.first)));
  within = let x = h.within in let y = k.within in let z = halves.long in omega (arith, x, y, z, is);
}
  where
    begins : a.lines + 0 ≡ 0 + length (lines front)
    begins = let x = h.count in omega (arith, x)
