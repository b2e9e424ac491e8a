use Rattle.std.proofs.Common.{drop, ap, rules, sym, subst, ◌∙◌}
use Rattle.wholenode.specs.Keeping.{AreShards}
use Rattle.wholenode.specs.Nodes.{NodeState}
use Rattle.workers.proofs.GoingLemmas.{first_left, stands_first}
use Rattle.workers.proofs.locks.Locks.of_node.Goals as goal

pub new-requires : goal.new-requires
new-requires g c =
    let began = g.J.Naming.began in
    let are : AreShards began.directory began.shards =
    subst (λ (n : NodeState). AreShards n.directory n.shards) c.requires c.into_parts-directory.ensures.keeps.shards in
    stands_first began _ c.in-Some.shard are
    (first_left began.shards _ c.in-Some.shard _ (sym c.in-Some.ensures.steps.0 ∙ c.loop-shard.invariant.left)).0

pub loop-shard-preserved : goal.loop-shard-preserved
loop-shard-preserved g c =
    let shards = g.J.Naming.began.shards in
    record {
      sixteen = search rules;
      buffer = search rules;
      left = (first_left shards _ c.in-Some.shard _ (sym c.in-Some.ensures.steps.0 ∙ c.loop-shard.invariant.left)).1
          ∙ ap (λ k. drop k shards) (sym c.push_reserved.ensures.len);
    }
