use Rattle.shardlog.proofs.LogLemmas.{seen_keeps}
use Rattle.shardlog.proofs.shard.Shard.base.Goals as goal

pub returns-in-Some-clause-keeps : goal.returns-in-Some-clause-keeps
returns-in-Some-clause-keeps c = seen_keeps _ _ _ _ _ c.self.view_is c.self.invariant

pub returns-in-None-clause-keeps : goal.returns-in-None-clause-keeps
returns-in-None-clause-keeps c = seen_keeps _ _ _ _ _ c.self.view_is c.self.invariant
