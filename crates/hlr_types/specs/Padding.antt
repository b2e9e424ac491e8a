-- A list in an array of n octets: the list, and then zeros.
use Rattle.std.specs.Prelude.{◌≡◌, ℕ, ◌+◌, ◌-◌, ◌<◌, ◌≤◌, List, ◌++◌, length, take, drop, replicate}
use Rattle.std.proofs.Common.{sym, ap, ◌∙◌, arith, set}
use Rattle.std.proofs.lemmas.List.{length-take-le, length-set, take-append-drop, drop-set-lt, drop-replicate, drop-drop}

-- Of an array of n octets the first `count` are used, and the others are zero.
pub record IsPadded (n : ℕ) (items : List ℕ) (count : ℕ) : Type 0 where
  pub small : n < 256
  pub len : length items ≡ n
  pub within : count ≤ n
  pub zeros : drop count items ≡ replicate (n - count) 0

pub padded_count : (n : ℕ) (items : List ℕ) (count : ℕ) → IsPadded n items count → length (take count items) ≡ count
padded_count n items count h = length-take-le count items (omega (arith, h.len, h.within))

pub padded_items : (n : ℕ) (items : List ℕ) (count : ℕ) → IsPadded n items count → take count items ++ replicate (n - length (take count items)) 0 ≡ items
padded_items n items count h =
    ap (λ m. take count items ++ replicate (n - m) 0) (padded_count n items count h) ∙ ap (λ r. take count items ++ r) (sym h.zeros)
    ∙ take-append-drop count items

pub same_made : {A : Type 0} (make : List ℕ → ℕ → A) (xs ys : List ℕ) (m n : ℕ) → xs ≡ ys → m ≡ n → make xs m ≡ make ys n
same_made make xs ys m n e f = cc

-- One item more.
pub padded_push : (n : ℕ) (items : List ℕ) (count item : ℕ) → IsPadded n items count → count < n → IsPadded n (set items count item) (count + 1)
padded_push n items count item h lt =
    let rest : (n - count) - 1 ≡ n - (count + 1) = omega arith in
    record {
      small = h.small;
      len = length-set items count item ∙ h.len;
      within = omega arith;
      zeros =
          drop-set-lt (count + 1) items count item (omega arith) ∙ sym (drop-drop 1 count items) ∙ ap (drop 1) h.zeros
          ∙ drop-replicate 1 (n - count) 0 ∙ ap (λ m. replicate m 0) rest;
    }
