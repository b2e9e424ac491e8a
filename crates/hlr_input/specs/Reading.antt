-- What the lines of a script and their octets read to. Private functions cite these; the forms are in `Script` and `Octets`.
use Rattle.std.specs.Prelude.{◌≡◌, ℕ, ◌-◌, ◌==◌, ◌&&◌, nat_le, Bool, true, false, List, [], ◌∷◌, ◌++◌, length, Option, Some, None, option_map, if◌then◌else◌, codes as text}
use Rattle.hlr_types.specs.Digits.{AreSomeDigits}
use Rattle.hlr_types.specs.DigitTexts.{text_of}
use Rattle.texts.specs.Lines.{parts}
use Rattle.records.specs.Spelling.{IsImsiNumber, IsCodes}
use Rattle.records.specs.Reading.{◌>>=◌, is_text, octet_in}
use Rattle.hlr_input.specs.declared.group.Group.{Group}
use Rattle.hlr_input.specs.declared.group.Group.TheVariants.{Octet, Letter}
use Rattle.hlr_input.specs.declared.item.Item.{Item}
use Rattle.hlr_input.specs.Octets.{octets_of_group, is_known}
use Rattle.hlr_input.specs.Script.{Line, Frame, Clock, Expire, Batch, Codes, Withdraw, IsTicks, line_of}

-- ---- octets

abbrev pub letter_in : ℕ → Option Group
letter_in character = if nat_le 65 character && nat_le character 90 then Some (Letter (character - 65)) else None

abbrev pub group_in : ℕ → ℕ → Option Group
group_in a b = if a == 36 then letter_in b else option_map (λ octet. Octet octet) (octet_in (a ∷ b ∷ []))

abbrev pub stands : ℕ → Option Group → Bool
stands known None = false
stands known (Some group) = is_known known group

unfoldable pub are_groups : ℕ → List ℕ → Bool
are_groups known [] = true
are_groups known (a ∷ []) = false
are_groups known (a ∷ b ∷ more) = stands known (group_in a b) && are_groups known more

-- The octets found so far, and those of the groups that are left.
unfoldable pub octets_after : List (List ℕ) → List ℕ → List ℕ → Option (List ℕ)
octets_after ids found [] = Some found
octets_after ids found (a ∷ []) = None
octets_after ids found (a ∷ b ∷ more) = group_in a b >>= λ group. octets_of_group ids group >>= λ octets. octets_after ids (found ++ octets) more

abbrev pub octets_in : List (List ℕ) → List ℕ → Option (List ℕ)
octets_in ids written =
    if is_text written (text "-") then Some [] else if length written == 0 then None else octets_after ids [] written

abbrev pub octets_stand : ℕ → List ℕ → Bool
octets_stand known written =
    if is_text written (text "-") then true else if length written == 0 then false else are_groups known written

-- ---- ticks

abbrev pub is_plain : List ℕ → Bool
is_plain [] = false
is_plain (first ∷ more) = if first == 48 then length more == 0 else nat_le 49 first && nat_le first 57

-- ---- lines

-- The line begins with its kind and a space, and goes on so. A frame's octets are here what follows the address, with or without a space.
abbrev pub IsWritten : List ℕ → Line → Type 0
IsWritten line (Frame from field) = (line ≡ 70 ∷ 32 ∷ (text_of from ++ 32 ∷ field)) × AreSomeDigits from
IsWritten line (Clock now) = (ticks : List ℕ) × (line ≡ 67 ∷ 32 ∷ ticks) × IsTicks ticks now
IsWritten line Expire = line ≡ text "E"
IsWritten line Batch = line ≡ text "W"
IsWritten line (Codes imsi codes) =
    (rest number field : List ℕ) × (line ≡ 79 ∷ 32 ∷ rest) × (parts 32 rest ≡ number ∷ field ∷ []) × IsImsiNumber number imsi × IsCodes field codes
IsWritten line (Withdraw imsi) = (number : List ℕ) × (line ≡ 88 ∷ 32 ∷ number) × IsImsiNumber number imsi

-- The result of a call for a line: what the line says and nothing else, or that it says nothing.
abbrev pub Reads : (Line → Type 0) → Option Item → Type 0
Reads Says (Some item) = Says (line_of item) × ((said : Line) → Says said → line_of item ≡ said)
Reads Says None = (said : Line) → Says said → ⊥
