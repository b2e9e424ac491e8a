-- What a batch answers, as the code has it.
use Rattle.std.specs.Prelude.{List}
use Rattle.std.specs.List.{flat_map}
use Rattle.frames.specs.Account.{Receipt}
use Rattle.frames.specs.Octets.{RawOut}
use Rattle.workers.specs.Shared.{sent_at}
use Rattle.hlr_program.specs.declared.answers.Answers.{Answers}
use Rattle.hlr_program.specs.Printed.{SoFar}

abbrev pub so_far : Answers → SoFar
so_far a = record { text = a.text.items; ids = a.letters }

-- the frames that receipts have
abbrev pub frames_for : List Receipt → List RawOut
frames_for receipts = flat_map (λ r. sent_at r.place) receipts
