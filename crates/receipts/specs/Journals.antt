-- The journals of shards, in the order of the shards.
use Rattle.std.specs.Prelude.{List, map}
use Rattle.frames.specs.Octets.{RawEntry}
use Rattle.shardlog.specs.Log.{Log}

abbrev pub journal_list : List Log → List (List RawEntry)
journal_list shards = map (λ l. l.entries) shards
