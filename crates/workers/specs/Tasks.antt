-- A job that a worker has taken, as far as it is handled.
use Rattle.std.specs.Prelude.{◌≡◌, ◌<◌, IfSome}
use Rattle.frames.specs.Octets.{RawEvent}
use Rattle.records.specs.Maps.{DirectoryMap}
use Rattle.hlrcore.specs.Addressees.{IsAddressee}
use Rattle.hlrcore.specs.Events.{event_of, raw_of}
use Rattle.hlrcore.specs.Shards.{directory_of}
use Rattle.workers.specs.declared.task.Stage.{Stage}
use Rattle.workers.specs.declared.task.Stage.TheVariants.{Answered, Read}
use Rattle.workers.specs.Answered.{IsAnswered}
use Rattle.receipts.specs.Receipts.{place_of}

-- It is this event that was read, and it is known whom it is for; an answer with a place is that of a shard that handled this event.
abbrev pub IsOf : DirectoryMap → RawEvent → Stage → Type 0
IsOf directory raw (Read found event) = (raw_of event ≡ raw) × (found.shard < 16) × IsAddressee (directory_of directory) (event_of event) found
IsOf directory raw (Answered answer) = IfSome (place_of answer) (IsAnswered raw)
