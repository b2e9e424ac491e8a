-- The batches of a script, and what is checked before anything is handled (profile).
use Rattle.std.specs.Prelude.{◌≡◌, ◌⊎◌, ℕ, ◌+◌, ◌<◌, Bool, true, false, List, [], ◌∷◌, length, Option, Some, None, if◌then◌else◌, codes as text}
use Rattle.texts.specs.Lines.{lines}
use Rattle.records.specs.Reading.{is_text}
use Rattle.hlr_input.specs.declared.group.Group.{Group}
use Rattle.hlr_input.specs.Octets.{IsOctets, are_known}
use Rattle.hlr_input.specs.Script.{Line, Frame, IsLine, IsGoodLine}

-- The lines of the first batch, without the `W` that ends it.
abbrev pub batch_of : List (List ℕ) → List (List ℕ)
batch_of [] = []
batch_of (line ∷ more) = if is_text line (text "W") then [] else line ∷ batch_of more

-- The lines after the first batch.
abbrev pub behind_batch : List (List ℕ) → List (List ℕ)
behind_batch [] = []
behind_batch (line ∷ more) = if is_text line (text "W") then more else behind_batch more

-- A line before the first batch becomes part of it.
abbrev pub with_line : List ℕ → List (List (List ℕ)) → List (List (List ℕ))
with_line line [] = (line ∷ []) ∷ []
with_line line (batch ∷ more) = (line ∷ batch) ∷ more

-- The batches of a script. The last one needs no `W`.
abbrev pub batches_of : List (List ℕ) → List (List (List ℕ))
batches_of [] = []
batches_of (line ∷ more) = if is_text line (text "W") then [] ∷ batches_of more else with_line line (batches_of more)

-- What a batch leaves of a text: the lines after it, of fewer octets, and the number of lines before these, if there are any.
pub record IsBehind (text : List ℕ) (before : ℕ) (left : List ℕ) (left_before : ℕ) : Type 0 where
  pub lines_are : lines left ≡ behind_batch (lines text)
  pub shorter : 0 < length text → length left < length text
  pub number : 0 < length left → left_before ≡ before + length (batch_of (lines text)) + 1

-- The line with this number, counted from 1, is the first bad one, if `before` lines precede these.
abbrev pub IsFirst : (Good Bad : List ℕ → Type 0) → List (List ℕ) → ℕ → ℕ → Type 0
IsFirst Good Bad [] before number = ⊥
IsFirst Good Bad (line ∷ more) before number =
    ((number ≡ before + 1) × Bad line) ⊎ (Good line × IsFirst Good Bad more (before + 1) number)

-- ---- the form of the lines

abbrev pub IsGood : List ℕ → Type 0
IsGood line = (said : Line) × IsGoodLine line said

abbrev pub IsBad : List ℕ → Type 0
IsBad line = (said : Line) → IsGoodLine line said → ⊥

-- ---- letters

-- Each letter of the line is one of the first n.
abbrev pub HasIds : ℕ → List ℕ → Type 0
HasIds known line =
    (from field : List ℕ) (groups : List Group) → IsLine line (Frame from field) → IsOctets field groups → are_known known groups ≡ true

-- The line is a frame's, and has a letter that is not one of the first n.
abbrev pub LacksId : ℕ → List ℕ → Type 0
LacksId known line =
    (from field : List ℕ) × IsLine line (Frame from field) × ((groups : List Group) → IsOctets field groups → are_known known groups ≡ false)

-- The ids are passed, unless there is no letter.
abbrev pub ArePassed : (lettered : Bool) → Option (List (List ℕ)) → (ids : List (List ℕ)) → Type 0
ArePassed true passed ids = passed ≡ Some ids
ArePassed false passed ids = passed ≡ None
