-- What the check of a script finds.
use Rattle.std.specs.Prelude.{◌≡◌, ◌≤◌, ℕ, Bool, List, false, length}
use Rattle.std.specs.List.{AllByRecursion}
use Rattle.texts.specs.Lines.{lines}
use Rattle.hlr_program.specs.declared.check.Script.{Script}
use Rattle.hlr_program.specs.declared.check.Seen.{Seen}
use Rattle.hlr_program.specs.Batches.{HasIds, IsBad, IsFirst, IsGood}

-- Each line has one of the forms, and in a text that is said to have no letter none has one: each of its letters is one of the first 0.
pub record HasForms (text : List ℕ) (lettered : Bool) : Type 0 where
  pub good : AllByRecursion IsGood (lines text)
  pub plain : lettered ≡ false → AllByRecursion (HasIds 0) (lines text)

abbrev pub IsChecked : Script → Type 0
IsChecked script = HasForms script.text.items script.lettered

-- The lines are so many, no more than the text has octets, and have the forms of a checked script.
pub record IsSeen (text : List ℕ) (seen : Seen) : Type 0 where
  pub forms : HasForms text seen.lettered
  pub count : seen.lines ≡ length (lines text)
  pub within : seen.lines ≤ length text

-- The line with this number is the first of a text that has none of the forms.
pub record IsFirstBad (text : List ℕ) (number : ℕ) : Type 0 where
  pub first : IsFirst IsGood IsBad (lines text) 0 number
  pub within : number ≤ length text
