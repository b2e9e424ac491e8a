-- What a register comes to when the same events are handled again.
use Rattle.std.specs.Prelude.{◌≡◌, ℕ, List, Option, Some, None, map, slice_get}
use Rattle.frames.specs.Octets.{RawEvent}
use Rattle.hlrcore.specs.Replaying.{IsAlike}
use Rattle.shardlog.specs.declared.entry.Handled.{Handled}
use Rattle.shardlog.specs.Log.{Log}
use Rattle.wholenode.specs.Handling.{Runs, sent_of}
use Rattle.wholenode.specs.Nodes.{NodeState}

-- No event tells the states of these two shards apart. Their journals may differ.
abbrev pub AreAlikeAt : Option Log → Option Log → Type 0
AreAlikeAt None None = Unit {0}
AreAlikeAt (Some l) (Some m) = IsAlike l.state m.state
AreAlikeAt _ _ = ⊥

-- No event tells these two registers apart: their directory is the same, and so are the states of their shards, one by one.
pub record AreAlike (here there : NodeState) : Type 0 where
  pub directory : here.directory ≡ there.directory
  pub shards : (n : ℕ) → AreAlikeAt (slice_get here.shards n) (slice_get there.shards n)

-- The same events, handled in the same order by registers that no event tells apart, send the same, and lead to registers that no event tells
-- apart.
abbrev pub AreReplayed : Type 0
AreReplayed = (here there after behind : NodeState) (raws : List RawEvent) (done again : List Handled) → AreAlike here there
    → Runs here raws done after → Runs there raws again behind → (map sent_of done ≡ map sent_of again) × AreAlike after behind
