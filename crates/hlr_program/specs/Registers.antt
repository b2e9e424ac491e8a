-- The register of a run, in one thread or shared by workers, and what it does with events.
use Rattle.std.specs.Prelude.{◌≡◌, ℕ, zero, suc, Bool, false, List, [], Option, Some, None}
use Rattle.machine.specs.State.{State}
use Rattle.frames.specs.Octets.{RawEvent, RawOut}
use Rattle.records.specs.Loaded.{Subscribers}
use Rattle.shardlog.specs.Codes.{kept_if}
use Rattle.shardlog.specs.Log.{Log}
use Rattle.wholenode.specs.Keeping.{NodeKeeps}
use Rattle.wholenode.specs.Nodes.{whole}
use Rattle.wholenode.specs.Opening.{BeginsWith}
use Rattle.workers.specs.Shared.{GoesOn, HandsOut, StandsBehind}
use Rattle.hlr_program.specs.declared.register.Register.{Register}
use Rattle.hlr_program.specs.declared.register.Register.TheVariants.{Alone, Shared}
use Rattle.hlr_program.specs.Journals.{RunsAlone}
use Rattle.hlr_program.specs.Parts.{KeepsAs}
use Rattle.hlr_program.specs.Runs.{opening_of}

-- The register is shared by this number of workers, or is in one thread if there are none.
abbrev pub IsOf : (workers : ℕ) → Register → Type 0
IsOf zero (Alone alone) = Unit {0}
IsOf zero (Shared crew) = ⊥
IsOf (suc more) (Alone alone) = ⊥
IsOf (suc more) (Shared crew) = Unit {0}

-- The events that it was given, and has not handled yet.
abbrev pub part_of : Register → List RawEvent
part_of (Alone alone) = alone.part
part_of (Shared crew) = crew.part

-- It has loaded this, and was given nothing. In one thread it keeps entries if they are listed.
abbrev pub OpensWith : (listed : Bool) → Subscribers → Register → Type 0
OpensWith listed loaded (Alone alone) = BeginsWith loaded (kept_if listed) 0 alone.register × NodeKeeps alone.register × (alone.part ≡ [])
OpensWith listed loaded (Shared crew) = StandsBehind (opening_of loaded) [] [] crew.register × (crew.part ≡ [])

-- Whether it asks for the number of a batch's events before the batch: in one thread, if it keeps entries.
abbrev pub CountsFirst : Register → Bool → Type 0
CountsFirst (Alone alone) counts = KeepsAs (kept_if counts) alone.register
CountsFirst (Shared crew) counts = counts ≡ false

-- What is known about it between two events: its state, or nothing if workers share it.
abbrev pub state_known : Register → Option State
state_known (Alone alone) = Some (whole alone.register.shards)
state_known (Shared crew) = None

-- The register handles these events, and sends this, one list for each. In one thread they are a run of the machine in order;
-- with workers something is known only when jobs and receipts account for the journals.
abbrev pub RunsTo : Register → List RawEvent → List (List RawOut) → Register → Type 0
RunsTo (Alone before) events sent (Alone after) = RunsAlone before.register events sent after.register
RunsTo (Alone before) events sent (Shared after) = ⊥
RunsTo (Shared before) events sent (Alone after) = ⊥
RunsTo (Shared before) events sent (Shared after) = GoesOn before.register events sent after.register

-- These are the shards that it returns.
abbrev pub HandsOver : Register → List Log → Type 0
HandsOver (Alone alone) shards = (shards ≡ alone.register.shards) × NodeKeeps alone.register
HandsOver (Shared crew) shards =
    (begin : State) (events : List RawEvent) (sent : List (List RawOut)) → StandsBehind begin events sent crew.register
    → HandsOut begin events sent shards
