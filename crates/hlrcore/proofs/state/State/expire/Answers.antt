use Rattle.std.proofs.Common.{IfOk, subst}
use Rattle.frames.specs.Octets.{RawExpire}
use Rattle.hlrcore.specs.Shards.{ShardState}
use Rattle.hlrcore.specs.Leading.{Leads}
use Rattle.hlrcore.specs.Ids.{MovesIds}
use Rattle.hlrcore.proofs.SoundLemmas.{expiry_is_routed, sound_after}
use Rattle.hlrcore.proofs.state.State.expire.Goals as goal

pub invariant_of-self : goal.invariant_of-self
invariant_of-self c =
    sound_after c.expire.result c.self.inside.parts c.expire.new.self
    (RawExpire c.self.inside.parts.shard) c.self.invariant c.expire.ensures.expired
    (expiry_is_routed c.self.inside.parts c.expire.result) c.expire.ensures.err c.expire.ensures.same_shard

pub returns-clause-stepped : goal.returns-clause-stepped
returns-clause-stepped c =
    subst (λ (s : ShardState). IfOk c.expire.result (λ a. Leads s (RawExpire s.shard) a c.expire.new.self)) c.self.view_is c.expire.ensures.expired

pub returns-clause-ids : goal.returns-clause-ids
returns-clause-ids c =
    subst (λ (s : ShardState). IfOk c.expire.result (λ a. MovesIds s.dialogues a.id c.expire.new.self.dialogues)) c.self.view_is c.expire.ensures.ids
