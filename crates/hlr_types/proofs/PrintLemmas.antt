-- A word is printed from its high end.
use Rattle.std.proofs.Common.{◌≡◌, ℕ, ◌+◌, ◌*◌, ◌/◌, ◌%◌, ◌^◌, ◌<◌, ◌≤◌, List, [], ◌∷◌, ◌++◌, length, append_assoc, append-nil, length-append, refl, sym, ap, ◌∙◌, arith}
use Rattle.std.specs.List.{AllByRecursion}
use Rattle.hlr_types.specs.DigitTexts.{text_of}
use Rattle.hlr_types.specs.Words.{in_word, word_of, IsWord}
use Rattle.hlr_types.proofs.PackLemmas.{first_digit, other_digits, no_digits, word_pos}
use Rattle.hlr_types.proofs.PlaceLemmas.{pos}

-- What is left of all the digits is in the rest of the word, and the text is that of the others.
pub record IsPrinted (rest : ℕ) (text all : List ℕ) : Type 0 where
  pub left : List ℕ
  pub each : AllByRecursion (λ d. d < 10) left
  pub count : length text + length left ≤ 16
  pub whole : text ++ text_of left ≡ text_of all
  pub word : rest ≡ word_of left

pub record IsNextPrinted (rest : ℕ) (text all : List ℕ) : Type 0 where
  pub small : rest / 2 ^ 60 ≤ 10
  pub room : length text < 16
  pub next : IsPrinted (rest * 16 % 2 ^ 64) (text ++ (rest / 2 ^ 60 + 47) ∷ []) all

print-by : (rest : ℕ) (text all left : List ℕ) → AllByRecursion (λ d. d < 10) left → length text + length left ≤ 16 → text ++ text_of left ≡ text_of all
    → rest ≡ word_of left → 0 < rest → IsNextPrinted rest text all
print-by rest text all [] each count whole word pos = absurd (omega (arith, pos, word, no_digits))
print-by rest text all (d ∷ ds) each count whole word pos =
    let few : length ds ≤ 15 = omega (arith, count) in
    let first : rest / 2 ^ 60 ≡ d + 1 = ap (λ w. w / 2 ^ 60) word ∙ first_digit d ds each.1 in
    let same : rest / 2 ^ 60 + 47 ≡ d + 48 = omega (arith, first) in
    record {
      small = omega (arith, first, each.0);
      room = omega (arith, count);
      next = record {
        left = ds;
        each = each.1;
        count = omega (arith, count, length-append text ((rest / 2 ^ 60 + 47) ∷ []));
        whole = append_assoc text ((rest / 2 ^ 60 + 47) ∷ []) (text_of ds) ∙ ap (λ x. text ++ x ∷ text_of ds) same ∙ whole;
        word = ap (λ w. w * 16 % 2 ^ 64) word ∙ other_digits d ds few each.1;
      };
    }

pub print_next : (rest : ℕ) (text all : List ℕ) → IsPrinted rest text all → (rest ≡ 0 → ⊥) → IsNextPrinted rest text all
print_next rest text all is n = print-by rest text all is.left is.each is.count is.whole is.word (pos rest n)

all-printed-by : (text all left : List ℕ) → text ++ text_of left ≡ text_of all → 0 ≡ word_of left → text ≡ text_of all
all-printed-by text all [] whole word = sym (append-nil text) ∙ whole
all-printed-by text all (d ∷ ds) whole word = absurd (omega (arith, word, word_pos d ds))

pub all_printed : (rest : ℕ) (text all : List ℕ) → IsPrinted rest text all → rest ≡ 0 → text ≡ text_of all
all_printed rest text all is e = all-printed-by text all is.left is.whole (sym e ∙ is.word)

pub none_printed : (w : ℕ) → IsWord w → IsPrinted w [] (in_word w)
none_printed w is = record { left = in_word w; each = is.digits.each; count = omega (arith, is.digits.most); whole = refl; word = sym is.whole }
