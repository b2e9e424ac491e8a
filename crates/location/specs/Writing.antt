-- What may be written to a record.
use Rattle.std.specs.Prelude.{Option, Some, None, true}
use Rattle.records.specs.Subscriber.{Subscriber, IsPlace}
use Rattle.location.specs.declared.outcome.After.{After}
use Rattle.location.specs.declared.outcome.After.TheVariants.{Same, Purged, Location, NewCodes, Withdrawn}

-- If something changes there is a record, and the register, flag and mark that are written may stand in it.
abbrev pub CanBeWritten : After → Option Subscriber → Type 0
CanBeWritten Same found = Unit {0}
CanBeWritten Purged None = ⊥
CanBeWritten Purged (Some s) = IsPlace s.withdrawn s.register true s.current
CanBeWritten (Location register purged current) None = ⊥
CanBeWritten (Location register purged current) (Some s) = IsPlace s.withdrawn register purged current
CanBeWritten NewCodes None = ⊥
CanBeWritten NewCodes (Some s) = Unit {0}
CanBeWritten Withdrawn None = ⊥
CanBeWritten Withdrawn (Some s) = Unit {0}
