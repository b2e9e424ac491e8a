-- Entries of the code as entries of the definitions.
use Rattle.std.specs.Prelude.{List, map}
use Rattle.frames.specs.Octets.{RawEntry}
pub use Rattle.hlrcore.specs.Events.{raw_event}
use Rattle.shardlog.specs.declared.entry.Entry.{Entry}

abbrev pub raw_entry : Entry → RawEntry
raw_entry e = record { event = raw_event e.event; id = e.id; subject = e.subject; outs = e.outs }

abbrev pub raw_entries : List Entry → List RawEntry
raw_entries entries = map raw_entry entries
