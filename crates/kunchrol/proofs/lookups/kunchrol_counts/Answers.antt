use Rattle.std.proofs.Common.{◌≡◌, rules, subst}
use Rattle.std.specs.Prelude.{Some}
use Rattle.embed.specs.Counts.{IsCountOf}
use Rattle.kunchrol.proofs.lookups.kunchrol_counts.Goals as goal

pub returns-clause-told : goal.returns-clause-told
returns-clause-told c = λ _.
    let was = c.deref.result.now in
    let before : c.args.handle.now.value ≡ Some was = search rules in
    let shard_is : c.in-Some.shard ≡ c.args.shard = search rules in
    record {
      is = was;
      held_is = before;
      counts = subst (λ n. IsCountOf was.node n c.counts-counts.result.dialogues c.counts-counts.result.entries) shard_is c.counts-counts.ensures;
    }
