use Rattle.std.proofs.Common.{ap, refl}
use Rattle.std.specs.Prelude.{None}
use Rattle.shardlog.specs.Entries.{raw_entries}
use Rattle.shardlog.proofs.LogLemmas.{held_keeps, held_none}
use Rattle.shardlog.proofs.shard.Shard.new.Goals as goal

pub invariant_of-result : goal.invariant_of-result
invariant_of-result c =
    held_none c.args.keep None c.args.state (raw_entries c.in-Ok.entries.items) refl (ap raw_entries c.in-Ok.ensures) c.law_sound.ensures

pub returns-in-Ok-clause-keeps : goal.returns-in-Ok-clause-keeps
returns-in-Ok-clause-keeps c = held_keeps _ _ _ _ (invariant_of-result c)
