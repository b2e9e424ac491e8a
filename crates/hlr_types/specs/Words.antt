-- Digits in one word: half octets from the highest on, each a digit and one, and 0 where there is no digit. So the order
-- of words is the order of texts.
use Rattle.std.specs.Prelude.{◌≡◌, ℕ, zero, suc, ◌+◌, ◌-◌, ◌*◌, ◌/◌, ◌%◌, ◌^◌, ◌==◌, if◌then◌else◌, List, [], ◌∷◌}
use Rattle.hlr_types.specs.Digits.{AreSomeDigits}

-- The digits in n half octets, as a number.
abbrev pub packed : ℕ → List ℕ → ℕ
packed zero digits = 0
packed (suc n) [] = 0
packed (suc n) (d ∷ ds) = (d + 1) * 16 ^ n + packed n ds

-- The digits that n half octets hold: those before the first 0.
abbrev pub unpacked : ℕ → ℕ → List ℕ
unpacked zero w = []
unpacked (suc n) w = if w / 16 ^ n == 0 then [] else (w / 16 ^ n - 1) ∷ unpacked n (w % 16 ^ n)

-- The word of these digits.
unfoldable pub word_of : List ℕ → ℕ
word_of digits = packed 16 digits

-- The digits of a word.
unfoldable pub in_word : ℕ → List ℕ
in_word w = unpacked 16 w

-- The word is that of 1 to 16 digits.
pub record IsWord (w : ℕ) : Type 0 where
  pub digits : AreSomeDigits (in_word w)
  pub whole : word_of (in_word w) ≡ w

pub same_word : {A : Type 0} (make : ℕ → A) (w : ℕ) → IsWord w → make (word_of (in_word w)) ≡ make w
same_word make w h = let e = h.whole in cc
