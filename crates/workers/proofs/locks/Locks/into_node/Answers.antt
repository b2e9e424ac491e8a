use Rattle.std.proofs.Common.{◌≡◌, length, rules, sym, subst}
use Rattle.records.specs.Maps.{DirectoryMap}
use Rattle.wholenode.specs.Keeping.{AreShards}
use Rattle.wholenode.specs.Nodes.{NodeState}
use Rattle.workers.specs.Going.{HaveGoneOn}
use Rattle.workers.proofs.GoingLemmas.{all_in_place, all_on, in_place_more}
use Rattle.workers.proofs.locks.Locks.into_node.Goals as goal

pub loop-lock-preserved : goal.loop-lock-preserved
loop-lock-preserved g c =
    let shard = c.into_shard-shard.result in
    let here : shard.state.shard ≡ length c.loop-lock.shards.items = search rules in
    record {
      sixteen = search rules;
      buffer = search rules;
      placed = in_place_more g.J.Naming.began c.loop-lock.shards.items c.push_reserved.new.self.items shard c.loop-lock.invariant.placed here
          c.into_shard-shard.ensures.stands c.push_reserved.ensures.items;
    }

pub of_parts-requires : goal.of_parts-requires
of_parts-requires g c =
    let sixteen : length c.loop-lock.shards.items ≡ 16 = search rules in
    subst (λ (d : DirectoryMap). AreShards d c.loop-lock.shards.items) (sym c.self.invariant.3)
    (all_in_place g.J.Naming.began c.loop-lock.shards.items c.self.invariant.4 sixteen c.loop-lock.invariant.placed)

pub returns-clause-gone_on : goal.returns-clause-gone_on
returns-clause-gone_on g c =
    let sixteen : length c.loop-lock.shards.items ≡ 16 = search rules in
    subst (λ (n : NodeState). HaveGoneOn g.J.Naming.began.shards n.shards) (sym c.of_parts.ensures.is)
    (all_on g.J.Naming.began c.loop-lock.shards.items c.self.invariant.4 sixteen c.loop-lock.invariant.placed)
