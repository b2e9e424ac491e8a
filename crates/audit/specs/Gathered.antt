-- What the code gathers for a listing, as what a listing has.
use Rattle.std.specs.Prelude.{ℕ, ℤ, map as each}
use Rattle.csl.specs.declared.was.Was.{Was}
use Rattle.csl.specs.Seen.{invocation_of}
use Rattle.machine.specs.State.{Invocation}
use Rattle.dialogues.specs.Seen.{dialogue_with}
use Rattle.shardlog.specs.Entries.{raw_entry}
use Rattle.audit.specs.declared.gathered.Opened.{Opened}
use Rattle.audit.specs.declared.gathered.PlacedEntry.{PlacedEntry}
use Rattle.audit.specs.Listing.{Open, Placed}

-- an invocation from its id, its state and its deadline
abbrev pub told_back : ℤ × Was × ℕ → Invocation
told_back told = invocation_of told.0 told.1 told.2

-- An open dialogue, with its invocations.
abbrev pub opened : Opened → Open
opened o = (o.id, dialogue_with (each told_back o.invocations.items) o.dialogue)

abbrev pub placed : PlacedEntry → Placed
placed p = record { shard = p.shard; position = p.position; entry = raw_entry p.entry.now }
