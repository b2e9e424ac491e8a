-- Digits as printed text.
use Rattle.std.specs.Prelude.{◌≡◌, ℕ, ◌+◌, ◌-◌, Bool, nat_le, ◌&&◌, List, length, map, Option, Some, None, if◌then◌else◌}
use Rattle.std.specs.List.{list_all}
use Rattle.hlr_types.specs.Digits.{AreSomeDigits}

-- The ASCII text of these digits: one character for each, from '0' to '9'.
abbrev pub text_of : List ℕ → List ℕ
text_of digits = map (λ d. d + 48) digits

-- The text is the ASCII text of these digits.
pub record IsText (text digits : List ℕ) : Type 0 where
  pub some : AreSomeDigits digits
  pub printed : text ≡ text_of digits

-- An ASCII digit.
abbrev pub is_digit : ℕ → Bool
is_digit octet = nat_le 48 octet && nat_le octet 57

-- The digits of an ASCII text of 1 to 16 digits.
abbrev pub digits_in : List ℕ → Option (List ℕ)
digits_in text =
    if nat_le 1 (length text) && nat_le (length text) 16 && list_all is_digit text
    then Some (map (λ octet. octet - 48) text)
    else None

-- Digits and their texts go to each other: each digit text is read as the digits that are printed so.
pub record AreTextForms : Type 0 where
  pub printed_is_read : (digits : List ℕ) → AreSomeDigits digits → digits_in (text_of digits) ≡ Some digits
  pub read_is_printed : (text digits : List ℕ) → digits_in text ≡ Some digits → text_of digits ≡ text
