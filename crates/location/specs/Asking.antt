-- The request in a Begin.
use Rattle.std.specs.Prelude.{◌≡◌, ℕ, List, map, Option}
use Rattle.machine.specs.Received.{Component, Begin, Verdict, Read}
use Rattle.machine.specs.Begins as machine
use Rattle.machine.specs.Sent.{Rejection}
use Rattle.mapctx.specs.Seen.{context}
use Rattle.q773_comp.specs.Seen.{rejection}
use Rattle.location.specs.declared.initiator.Initiator.{Initiator}
use Rattle.location.specs.declared.initiator.Source.{Source}

-- the sender of a Begin, with the Rejects of its components
abbrev pub source_with : Source → List Rejection → machine.Initiator
source_with s rejects = record { from = s.from; origin = s.origin; context = context s.context; rejects = rejects }

-- the request
abbrev pub initiator_of : Initiator → machine.Initiator
initiator_of a = source_with a.source (map rejection a.rejects.items)

-- the verdict is a Begin with this id and these components
abbrev pub IsBeginOf : Verdict → (origin : List ℕ) → List Component → Type 0
IsBeginOf v origin components = (name : Option (List ℕ)) × (v ≡ Read (Begin origin name components))
