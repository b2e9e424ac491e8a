-- An array is filled from its front, and what is not filled yet is zero.
use Rattle.std.proofs.Common.{◌≡◌, ℕ, ◌+◌, ◌-◌, ◌<◌, List, [], ◌∷◌, ◌++◌, drop, length, set, take, sym, ap, subst, ◌∙◌, arith, add-one}
use Rattle.std.specs.Prelude.{replicate}
use Rattle.std.proofs.lemmas.List.{length-replicate, take_more_set}
use Rattle.hlr_types.specs.Padding.{IsPadded, padded_count, padded_push}

pub none_filled : (n : ℕ) → n < 256 → IsPadded n (replicate n 0) 0
none_filled n small = record {
  small = small;
  len = length-replicate n 0;
  within = omega arith;
  zeros = ap (λ m. replicate m 0) (omega arith);
}

-- one more
pub one_filled : (n : ℕ) (items : List ℕ) (count item : ℕ) → IsPadded n items count → count < n
    → IsPadded n (set items count item) (count + 1) × (take (count + 1) (set items count item) ≡ take count items ++ item ∷ [])
one_filled n items count item h lt = (padded_push n items count item h lt, take_more_set items count item (omega (arith, h.len, lt)))

-- the octets that are filled are as many as there is room for at most
pub filled_room : (n : ℕ) (items : List ℕ) (count : ℕ) → IsPadded n items count → length (take count items) < n → count < n
filled_room n items count h lt = omega (arith, padded_count n items count h, lt)

-- the octet of a type of number stands before those of the digits
pub one_before : (n : ℕ) (items : List ℕ) (count item : ℕ) → IsPadded n items count → n < 255 → IsPadded (n + 1) (item ∷ items) (count + 1)
one_before n items count item h small = record {
  small = omega (arith, small);
  len = omega (arith, h.len);
  within = omega (arith, h.within);
  zeros = rest;
}
  where
    more : n - count ≡ (n + 1) - (count + 1)
    more = omega (arith, h.within)

    rest : drop (count + 1) (item ∷ items) ≡ replicate ((n + 1) - (count + 1)) 0
    rest = subst (λ (m : ℕ). drop m (item ∷ items) ≡ replicate ((n + 1) - (count + 1)) 0) (sym (add-one count))
        (h.zeros ∙ ap (λ (m : ℕ). replicate m 0) more)

pub taken_behind : (n item : ℕ) (items taken : List ℕ) → take n items ≡ taken → take (n + 1) (item ∷ items) ≡ item ∷ taken
taken_behind n item items taken e = subst (λ (m : ℕ). take m (item ∷ items) ≡ item ∷ taken) (sym (add-one n)) (ap (λ (l : List ℕ). item ∷ l) e)
