-- Why a register is not restored.
use Rattle.std.specs.Prelude.{◌≡◌, ℕ, List}
use Rattle.records.specs.declared.fault.RecordsFault.{RecordsFault}
use Rattle.records.specs.declared.fault.RecordsFault.TheVariants as file
use Rattle.records.specs.File.{Contents, File, IsBadLine, IsTwice}
use Rattle.records.specs.Loaded.{loaded_from}
use Rattle.images.specs.Beginnings.{beginnings}
use Rattle.images.specs.declared.fault.ImageFault.TheVariants as image
use Rattle.images.specs.Texts.{IsImageFault}
use Rattle.embed.specs.declared.fault.RestoreFault.{RestoreFault}
use Rattle.embed.specs.declared.fault.RestoreFault.TheVariants.{Image, Records}

-- The fault is the first of the records file; memory can run out with every text.
abbrev pub IsRecordsFault : (text : List ℕ) → RecordsFault → Type 0
IsRecordsFault text (file.BadLine n) = IsBadLine text n
IsRecordsFault text (file.Twice n) = IsTwice text n
IsRecordsFault text file.Memory = Unit {0}

-- It is the first of the records file; or the text is one, and the fault is the first of the image.
abbrev pub IsRestoreFault : (text written : List ℕ) → RestoreFault → Type 0
IsRestoreFault text written (Records fault) = IsRecordsFault text fault
IsRestoreFault text written (Image fault) = (contents : Contents) × File text contents × IsImageFault written (beginnings (loaded_from contents)) fault

-- Memory ran out.
abbrev pub IsMemoryFault : RestoreFault → Type 0
IsMemoryFault (Records fault) = fault ≡ file.Memory
IsMemoryFault (Image fault) = fault ≡ image.Memory
