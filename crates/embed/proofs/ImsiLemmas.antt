-- The text of an IMSI.
use Rattle.std.proofs.Common.{◌≡◌, ℕ, List, sym, ◌∙◌}
use Rattle.std.specs.Prelude.{Option, Some, None, IfSome}
use Rattle.records.specs.Reading.{imsi_in}
use Rattle.records.specs.Spelling.{IsImsiNumber}
use Rattle.records.proofs.AgainFields.{imsi_again}
use Rattle.records.proofs.LineLaws as records

pub imsi_found : (text : List ℕ) (r : Option (List ℕ)) → r ≡ imsi_in text → IfSome r (λ digits. IsImsiNumber text digits)
imsi_found text None e = tt
imsi_found text (Some digits) e = records.imsi_found text digits (sym e)

pub imsi_only : (text : List ℕ) (r : Option (List ℕ)) (digits : List ℕ) → r ≡ imsi_in text → IsImsiNumber text digits → r ≡ Some digits
imsi_only text r digits e is = e ∙ imsi_again text digits is
