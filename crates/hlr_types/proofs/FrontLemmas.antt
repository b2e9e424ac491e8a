-- The digits that a text begins with.
use Rattle.std.proofs.Common.{◌≡◌, ◌≢◌, ℕ, zero, suc, ◌+◌, ◌-◌, ◌*◌, ◌%◌, ◌^◌, ◌<◌, ◌≤◌, true, false, List, [], ◌∷◌, ◌++◌, length, map, take, drop, get_or, refl, sym, ap, ◌∙◌, arith, add-one}
use Rattle.std.specs.Prelude.{slice_index}
use Rattle.std.specs.List.{AllByRecursion, list_all}
use Rattle.std.proofs.lemmas.Bool.{and_parts, false≢true}
use Rattle.std.proofs.lemmas.List.{length-map, length-take-le, take-map}
use Rattle.std.proofs.lemmas.List.Folds.{list_all_more}
use Rattle.hlr_types.specs.Digits.{AreSomeDigits}
use Rattle.hlr_types.specs.DigitTexts.{is_digit, text_of}
use Rattle.hlr_types.specs.Words.{packed, in_word, IsWord}
use Rattle.hlr_types.proofs.PackLemmas.{packed_more, packed_small, shifted_at, is_word_of}
use Rattle.hlr_types.proofs.TextLemmas.{minus-plus, plus-minus, printed_digit, decimal, digit_at, is_digit_bounds, are_some_digits}

-- the digits that the first characters are, if they are any
abbrev pub front : ℕ → List ℕ → List ℕ
front count text = map (λ octet. octet - 48) (take count text)

-- ---- what is counted

-- The number is that of so many characters, which are digits.
pub record IsFront (number count : ℕ) (text : List ℕ) : Type 0 where
  pub most : count ≤ 16
  pub digits : list_all is_digit (take count text) ≡ true
  pub number_is : number ≡ packed count (front count text)

pub none_yet : (text : List ℕ) → IsFront 0 0 text
none_yet text = record { most = omega arith; digits = refl; number_is = refl }

pub record IsNextDigit (number count octet : ℕ) (text : List ℕ) : Type 0 where
  pub least : 48 ≤ octet
  pub most : octet ≤ 57
  pub small : number < 16 ^ 15
  pub next : IsFront (number * 16 + (octet - 47)) (count + 1) text

pub next_digit : (number count place octet : ℕ) (text : List ℕ) → IsFront number place text → count ≡ place → count ≢ 16 → place < length text
    → octet ≡ get_or text place 0 → is_digit octet ≡ true → IsNextDigit number place octet text
next_digit number other count octet text is same few within here digit =
    let room : count < 16 = omega (arith, is.most, same, few) in
    let bounds = is_digit_bounds octet digit in
    let long : length (map (λ b. b - 48) text) ≡ length text = length-map text (λ b. b - 48) in
    let more = packed_more count (map (λ b. b - 48) text) (omega (arith, long, within)) in
    let before : packed count (take count (map (λ b. b - 48) text)) ≡ number =
    ap (packed count) (take-map (λ b. b - 48) count text) ∙ sym is.number_is in
    let after : packed (suc count) (take (suc count) (map (λ b. b - 48) text)) ≡ packed (count + 1) (front (count + 1) text) =
    rw add-one (ap (packed (suc count)) (take-map (λ b. b - 48) (suc count) text)) in
    record {
      least = bounds.0;
      most = bounds.1;
      small = omega (arith, is.number_is, packed_small count (front count text) (omega (arith, room)) (decimal (take count text) is.digits));
      next = record {
        most = omega (arith, room);
        digits = list_all_more is_digit text count 0 within ∙ rw (is.digits, sym here, digit) refl;
        number_is = omega (arith, more, before, after, digit_at count text within, here, bounds.0);
      };
    }

pub ruleset front_steps = (none_yet, next_digit)

-- ---- what is found

-- The word is that of these digits, which are 1 to 16.
pub record IsFrontWord (w : ℕ) (digits : List ℕ) : Type 0 where
  pub some : AreSomeDigits digits
  pub value : in_word w ≡ digits
  pub word : IsWord w

-- the number of the digits in front, shifted up, is their word
pub front_word : (number count : ℕ) (text : List ℕ) → 0 < count → count ≤ length text → count ≤ 16 → list_all is_digit (take count text) ≡ true
    → number ≡ packed count (front count text) → IsFrontWord (number * 2 ^ (64 - 4 * count) % 2 ^ 64) (front count text)
front_word number count text some within most digits number_is =
    let long : length (take count text) ≡ count = length-take-le count text within in
    let are : AreSomeDigits (front count text) = are_some_digits (take count text) (omega (arith, long, some)) (omega (arith, long, most)) digits in
    let few : length (front count text) ≤ count = omega (arith, long, length-map (take count text) (λ b. b - 48)) in
    let shifted = ap (λ n. n * 2 ^ (64 - 4 * count) % 2 ^ 64) number_is ∙ shifted_at count (front count text) are few most in
    let is = is_word_of (number * 2 ^ (64 - 4 * count) % 2 ^ 64) (front count text) are shifted in
    record { some = are; value = is.value; word = is.word }

split_at : (text : List ℕ) (count : ℕ) → count < length text → text ≡ take count text ++ get_or text count 0 ∷ drop (suc count) text
split_at [] count within = absurd (omega arith)
split_at (x ∷ xs) zero within = refl
split_at (x ∷ xs) (suc count) within = ap (λ (t : List ℕ). x ∷ t) (split_at xs count (omega arith))

pub front_found : (text : List ℕ) (end count : ℕ) → count < length text → list_all is_digit (take count text) ≡ true → slice_index text count ≡ end
    → text ≡ text_of (front count text) ++ end ∷ drop (count + 1) text
front_found text end count within digits end_is =
    rw (plus-minus (take count text) digits, sym end_is, add-one) (split_at text count within)

-- ---- what stands there is found

-- digits before a character that is none are counted, up to it
counted : (ds rest : List ℕ) (end count room : ℕ) → AllByRecursion (λ d. d < 10) ds → length ds ≤ room → is_digit end ≡ false
    → list_all is_digit (take count (text_of ds ++ end ∷ rest)) ≡ true
    → (count < room → count < length (text_of ds ++ end ∷ rest) → is_digit (get_or (text_of ds ++ end ∷ rest) count 0) ≡ false)
    → count ≡ length ds
counted [] rest end zero room each le other digits last = refl
counted [] rest end (suc count) room each le other digits last =
    absurd (false≢true (sym other ∙ (and_parts (is_digit end) (list_all is_digit (take count rest)) digits).0))
counted (d ∷ ds) rest end zero room each le other digits last =
    absurd (false≢true (sym (last (omega (arith, le)) (omega arith)) ∙ printed_digit d each.0))
counted (d ∷ ds) rest end (suc count) zero each le other digits last = absurd (omega (arith, le))
counted (d ∷ ds) rest end (suc count) (suc room) each le other digits last =
    ap suc (counted ds rest end count room each.1 (omega (arith, le)) other
    (and_parts (is_digit (d + 48)) (list_all is_digit (take count (text_of ds ++ end ∷ rest))) digits).1
    (λ lt within. last (omega (arith, lt)) (omega (arith, within))))

-- the parts of such a text
end_at : (digits rest : List ℕ) (end : ℕ) → get_or (text_of digits ++ end ∷ rest) (length digits) 0 ≡ end
end_at [] rest end = refl
end_at (d ∷ ds) rest end = end_at ds rest end

front_at : (digits rest : List ℕ) (end : ℕ) → take (length digits) (text_of digits ++ end ∷ rest) ≡ text_of digits
front_at [] rest end = refl
front_at (d ∷ ds) rest end = ap (λ (t : List ℕ). (d + 48) ∷ t) (front_at ds rest end)

back_at : (digits rest : List ℕ) (end : ℕ) → drop (suc (length digits)) (text_of digits ++ end ∷ rest) ≡ rest
back_at [] rest end = refl
back_at (d ∷ ds) rest end = back_at ds rest end

long_enough : (digits rest : List ℕ) (end : ℕ) → length digits < length (text_of digits ++ end ∷ rest)
long_enough [] rest end = omega arith
long_enough (d ∷ ds) rest end = omega (arith, long_enough ds rest end)

-- the text is these digits, the character at this place, and the rest
pub record StandAt (text digits rest : List ℕ) (end count : ℕ) : Type 0 where
  pub count_is : count ≡ length digits
  pub within : count < length text
  pub end_is : slice_index text count ≡ end
  pub front_is : front count text ≡ digits
  pub back_is : drop (count + 1) text ≡ rest

pub stand_at : (text digits rest : List ℕ) (end count : ℕ) → is_digit end ≡ false → AreSomeDigits digits → text ≡ text_of digits ++ end ∷ rest
    → list_all is_digit (take count text) ≡ true → (count < 16 → count < length text → is_digit (slice_index text count) ≡ false)
    → StandAt text digits rest end count
stand_at text digits rest end count other are text_is before last =
    let count_is : count ≡ length digits =
    counted digits rest end count 16 are.each are.most other (rw text_is at before) (rw text_is at last) in
    record {
      count_is = count_is;
      within = rw (count_is, text_is) (long_enough digits rest end);
      end_is = rw (count_is, text_is) (end_at digits rest end);
      front_is = rw (count_is, text_is) (ap (map (λ octet. octet - 48)) (front_at digits rest end) ∙ minus-plus digits);
      back_is = rw (add-one, count_is, text_is) (back_at digits rest end);
    }
