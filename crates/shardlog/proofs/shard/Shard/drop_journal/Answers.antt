use Rattle.std.proofs.Common.{ap, refl}
use Rattle.std.specs.Prelude.{None}
use Rattle.shardlog.specs.Entries.{raw_entries}
use Rattle.shardlog.proofs.LogLemmas.{ends_sound, held_keeps, held_none, seen_keeps}
use Rattle.shardlog.proofs.shard.Shard.drop_journal.Goals as goal

pub invariant_of-self : goal.invariant_of-self
invariant_of-self c =
    held_none c.self.inside.keep None c.self.inside.state (raw_entries c.clear.new.self.items) refl
    (ap raw_entries c.clear.ensures.items) (ends_sound _ c.self.invariant.log_is)

pub returns-clause-keeps : goal.returns-clause-keeps
returns-clause-keeps c = (seen_keeps _ _ _ _ _ c.self.view_is c.self.invariant, held_keeps _ _ _ _ (invariant_of-self c))
