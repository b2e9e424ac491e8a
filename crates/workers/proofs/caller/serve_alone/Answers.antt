use Rattle.std.proofs.Common.{◌≡◌, List, ap, length, rules, sym, subst, ◌∙◌}
use Rattle.std.proofs.lemmas.List.{with_items_is}
use Rattle.shardlog.specs.Log.{Log}
use Rattle.workers.specs.Going.{HaveGoneOn}
use Rattle.workers.proofs.Alone.{moved_alone}
use Rattle.workers.proofs.caller.serve_alone.Goals as goal

pub returns-clause-gone_on : goal.returns-clause-gone_on
returns-clause-gone_on g c =
    let shards = c.into_parts-directory.result.1 in let now = c.answer_each-receipts.new.shards in
    let on = c.answer_each-receipts.ensures.gone_on in
    let first : c.deref_mut.result.now ≡ c.args.node.shards = search rules in
    let last : c.of_parts.result.shards ≡ now = ap (λ n. n.shards) c.of_parts.ensures.is
    ∙ with_items_is shards now (on.count ∙ ap length c.deref_mut.ensures.value ∙ sym shards.ok.0) in
    subst (λ (p : List Log × List Log). HaveGoneOn p.0 p.1) (λ i. (first i, sym last i)) on

pub returns-clause-one_each : goal.returns-clause-one_each
returns-clause-one_each g c = moved_alone _ _ _ c.answer_each-receipts.ensures.all
