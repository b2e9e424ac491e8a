-- The frames that wait, as a queue of the frames of each event.
use Rattle.std.proofs.Common.{◌≡◌, ◌<◌, ◌+◌, ℕ, zero, suc, List, [], ◌∷◌, ◌++◌, drop, drop-drop, length, map, refl, sym, ap, ◌∙◌, arith}
use denote.Ref.{Bor}
use Rattle.std.specs.Prelude.{Option, None, Some, option_map, slice_get}
use Rattle.std.specs.List.{flat_map}
use Rattle.std.specs.Slice.{IsItemAt}
use Rattle.std.proofs.lemmas.Option.{slice_get-map, slice_get_past, slice_get_read}
use Rattle.frames.specs.Octets.{RawOut}
use Rattle.hlrcore.specs.declared.answer.Out.{Out}
use Rattle.hlrcore.specs.Frames.{raw_out}
use Rattle.embed.specs.Waiting.{IsQueue, waiting_in}

-- ---- lists

-- what is found at an index
pub item_is : {X : Type 0} (xs : List X) (n : ℕ) (r : Option (Bor X)) → IsItemAt xs n r → slice_get xs n ≡ option_map (λ x. x.now) r
item_is xs n None at = slice_get_past xs n at.3
item_is xs n (Some x) at = slice_get_read xs (length xs) n x.now refl at.3.0 at.1

-- the first element after n others
first_after : {X : Type 0} (xs : List X) (n : ℕ) → slice_get (drop n xs) 0 ≡ slice_get xs n
first_after [] zero = refl
first_after [] (suc n) = refl
first_after (x ∷ xs) zero = refl
first_after (x ∷ xs) (suc n) = first_after xs n

in_first : {X : Type 0} (xs ys : List X) (n : ℕ) → n < length xs → slice_get (xs ++ ys) n ≡ slice_get xs n
in_first [] ys n lt = absurd (omega (arith, lt))
in_first (x ∷ xs) ys zero lt = refl
in_first (x ∷ xs) ys (suc n) lt = in_first xs ys n (omega (arith, lt))

past_first : {X : Type 0} (xs ys : List X) (n : ℕ) → n ≡ length xs → drop n (xs ++ ys) ≡ ys
past_first [] ys n is = ap (λ k. drop k ys) is
past_first (x ∷ xs) ys zero is = absurd (omega (arith, is))
past_first (x ∷ xs) ys (suc n) is = past_first xs ys n (omega (arith, is))

-- ---- the frame that is to be taken next

pub front_is : (taken : ℕ) (lists : List (List RawOut)) (first : List RawOut) (frames : List Out) (r : Option (Bor Out)) → IsQueue taken lists
    → slice_get lists 0 ≡ Some first → map raw_out frames ≡ first → IsItemAt frames taken r
    → option_map (λ out. raw_out out.now) r ≡ slice_get (waiting_in taken lists) 0
front_is taken [] first frames r is found are at = absurd cc
front_is taken (one ∷ rest) first frames r is found are at =
    let same : one ≡ first = cc in
    sym (first_after (one ++ flat_map (λ l. l) rest) taken ∙ in_first one (flat_map (λ l. l) rest) taken is.0
    ∙ ap (λ (l : List RawOut). slice_get l taken) (same ∙ sym are) ∙ slice_get-map raw_out frames taken
    ∙ ap (option_map raw_out) (item_is frames taken r at) ∙ twice r)
  where
    twice : (r : Option (Bor Out)) → option_map raw_out (option_map (λ x. x.now) r) ≡ option_map (λ out. raw_out out.now) r
    twice None = refl
    twice (Some out) = refl

-- ---- it is dropped

-- one more of the first event's frames is taken
pub one_taken : (taken : ℕ) (lists : List (List RawOut)) → waiting_in (taken + 1) lists ≡ drop 1 (waiting_in taken lists)
one_taken taken lists = sym (drop-drop 1 taken (flat_map (λ l. l) lists))

-- the last of them is taken
pub last_taken : (taken : ℕ) (lists after : List (List RawOut)) (first : List RawOut) → IsQueue taken lists → slice_get lists 0 ≡ Some first
    → (taken + 1 < length first → ⊥) → after ≡ drop 1 lists → waiting_in 0 after ≡ drop 1 (waiting_in taken lists)
last_taken taken [] after first is found not rest_is = absurd cc
last_taken taken (one ∷ rest) after first is found not rest_is =
    let same : one ≡ first = cc in
    let lt : taken < length one = is.0 in
    let last : taken + 1 ≡ length one = omega (arith, lt, not, ap (λ (l : List RawOut). length l) same) in
    ap (waiting_in 0) rest_is
    ∙ sym (drop-drop 1 taken (one ++ flat_map (λ l. l) rest) ∙ past_first one (flat_map (λ l. l) rest) (taken + 1) last)
