-- What a round took.
use Rattle.std.specs.Prelude.{Result, Ok, Err}
use Rattle.msgarena.specs.JudgedFrame.{JudgedFrame}
use Rattle.msgarena.specs.declared.fault.RoundFault.{RoundFault}
use Rattle.msgarena.specs.declared.fault.RoundFault.TheVariants.{Memory, ResetRefused}

-- This holds of the frame that was taken, even if the arena could not be reset.
abbrev pub IfTaken : Result JudgedFrame RoundFault → (JudgedFrame → Type 0) → Type 0
IfTaken (Ok taken) P = P taken
IfTaken (Err (ResetRefused taken)) P = P taken
IfTaken (Err Memory) P = Unit {0}
