use Rattle.std.proofs.Common.{not, IsTrue, subst}
use Rattle.std.specs.Prelude.{◌↔◌}
use Rattle.machine.specs.Deadlines.{HasDue}
use Rattle.hlrcore.specs.Shards.{ShardState, state_of}
use Rattle.wholenode.specs.Nodes.{whole}
use Rattle.embed.proofs.LookupLemmas.{nothing_due}
use Rattle.embed.proofs.lookups.nothing_is_due.Goals as goal

pub returns : goal.returns
returns c =
    let node = c.args.node.now in
    let b = c.is_due.result in
    subst (λ n. IsTrue (not b) ↔ (HasDue (whole node.shards) n → ⊥)) c.number.ensures.value
    (nothing_due node c.shard_at.ensures.keeps c.number.result c.shard_at.result.now c.shard_at.ensures.stands b
    (subst (λ (s : ShardState). IsTrue b ↔ HasDue (state_of s) s.shard) c.state.ensures c.is_due.ensures))
