use Rattle.std.proofs.Common.{◌≡◌, ◌<◌, length, get_or, refl, ap, subst, ◌∙◌, rules, arith}
use Rattle.std.specs.Prelude.{Some, slice_get}
use Rattle.std.proofs.lemmas.Option.{slice_get_read}
use Rattle.hlrcore.specs.Shards.{ShardState}
use Rattle.embed.specs.Images.{AreListed}
use Rattle.embed.specs.Registers.{RegisterState}
use Rattle.embed.proofs.ImageLemmas.{none_below, one_more, within}
use Rattle.embed.proofs.register.Register.law_records_in_order.Goals as goal

pub loop-shard-init : goal.loop-shard-init
loop-shard-init c = none_below (λ (s : ShardState). AreListed s.records) _

pub loop-shard-preserved : goal.loop-shard-preserved
loop-shard-preserved c =
    let shards = c.shards-shards.result.now in
    let it = c.shard-item.result in
    let lt : c.loop-shard.shard-index < length shards = search rules in
    let is : it ≡ get_or shards c.loop-shard.shard-index it = search rules in
    let at = slice_get_read shards (length shards) c.loop-shard.shard-index it refl lt is in
    let listed : AreListed c.records.result.now = record { order = c.law_in_order.ensures.order; whole = c.law_in_order.ensures.whole } in
    let here : AreListed it.state.records = subst AreListed (c.records.ensures ∙ ap (λ (s : ShardState). s.records) c.state.ensures) listed in
    one_more (λ (s : ShardState). AreListed s.records) shards c.loop-shard.shard-index it at c.loop-shard.invariant here

pub returns-clause-order : goal.returns-clause-order
returns-clause-order c = λ n l e.
    let shards = c.shards-shards.result.now in
    let all : c.loop-shard.shard-index ≡ length shards = omega arith in
    let same : shards ≡ c.args.self.now.node.shards = c.shards-shards.ensures.shards ∙ ap (λ (r : RegisterState). r.node.shards) c.self.view_is in
    let at : slice_get shards n ≡ Some l = ap (λ z. slice_get z n) same ∙ e in
    let lt : n < length shards = within shards n l at in
    c.loop-shard.invariant n l (omega (arith, all, lt)) at
