use Rattle.shardlog.proofs.LogLemmas.{seen_keeps}
use Rattle.shardlog.proofs.shard.Shard.entries.Goals as goal

pub returns-clause-keeps : goal.returns-clause-keeps
returns-clause-keeps c = seen_keeps _ _ _ _ _ c.self.view_is c.self.invariant
