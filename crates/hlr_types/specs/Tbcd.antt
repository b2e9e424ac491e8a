-- Telephony binary coded decimal (TS 29.002 17.7.8, TBCD-STRING): two digits to an octet, the first of them in bits 4 to
-- 1, the second in bits 8 to 5; 1111 fills an odd count.
use Rattle.std.specs.Prelude.{◌≡◌, ℕ, ◌+◌, ◌*◌, ◌%◌, ◌/◌, Bool, ◌==◌, ◌&&◌, nat_lt, nat_le, if◌then◌else◌, List, [], ◌∷◌, length, Result, Ok, Err}
use Rattle.std.specs.List.{list_all, flat_map}
use Rattle.hlr_types.specs.declared.tbcd.TbcdFault.{TbcdFault}
use Rattle.hlr_types.specs.declared.tbcd.TbcdFault.TheVariants.{BadCount, BadDigit}
use Rattle.hlr_types.specs.Digits.{AreSomeDigits}

-- The octets of these digits.
abbrev pub tbcd : List ℕ → List ℕ
tbcd [] = []
tbcd (last ∷ []) = (last + 16 * 15) ∷ []
tbcd (first ∷ second ∷ more) = (first + 16 * second) ∷ tbcd more

-- The octets are the TBCD form of these digits.
pub record IsTbcd (octets digits : List ℕ) : Type 0 where
  pub some : AreSomeDigits digits
  pub spelled : octets ≡ tbcd digits

-- ---- reading, with each fault

-- The half octets, the low one of each octet first.
abbrev pub both_halves : ℕ → List ℕ
both_halves octet = octet % 16 ∷ octet / 16 ∷ []

abbrev pub halves : List ℕ → List ℕ
halves octets = flat_map both_halves octets

-- The half octets of the last octet, without the filler.
abbrev pub last_halves : ℕ → List ℕ
last_halves octet = if octet / 16 == 15 then octet % 16 ∷ [] else both_halves octet

-- The half octets, without a filler at the end.
abbrev pub unfilled : List ℕ → List ℕ
unfilled [] = []
unfilled (last ∷ []) = last_halves last
unfilled (octet ∷ next ∷ more) = octet % 16 ∷ octet / 16 ∷ unfilled (next ∷ more)

abbrev pub are_digits : List ℕ → Bool
are_digits numbers = list_all (λ n. nat_lt n 10) numbers

-- The digits of 1 to 8 octets: the count is checked before the digits.
abbrev pub digits_of : List ℕ → Result (List ℕ) TbcdFault
digits_of octets =
    if nat_le 1 (length octets) && nat_le (length octets) 8
    then (if are_digits (unfilled octets) then Ok (unfilled octets) else Err BadDigit)
    else Err BadCount

-- ---- laws

-- Digits and octets are two forms of one text: each digit text has exactly one TBCD form, and each TBCD form is that of
-- one digit text.
pub record AreTwoForms : Type 0 where
  pub has_form : (digits : List ℕ) → AreSomeDigits digits → IsTbcd (tbcd digits) digits
  pub one_form : (digits octets others : List ℕ) → IsTbcd octets digits → IsTbcd others digits → octets ≡ others
  pub one_text : (octets digits others : List ℕ) → IsTbcd octets digits → IsTbcd octets others → digits ≡ others

-- What is written is read again, and what was read is written again.
pub record AreInverse : Type 0 where
  pub written_is_read : (digits : List ℕ) → AreSomeDigits digits → digits_of (tbcd digits) ≡ Ok digits
  pub read_is_written : (octets digits : List ℕ) → digits_of octets ≡ Ok digits → tbcd digits ≡ octets
