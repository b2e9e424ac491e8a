use Rattle.std.proofs.Common.{sym, ap, ◌∙◌}
use Rattle.std.specs.Prelude.{Some, None}
use Rattle.hlrcore.specs.Shards.{ShardState}
use Rattle.embed.proofs.LookupLemmas.{by_number}
use Rattle.embed.proofs.lookups.record_by_number.Goals as goal

pub returns-in_default : goal.returns-in_default
returns-in_default c =
    by_number c.args.node.now c.args.msisdn.now c.shard_at.result.now c.directory.result.now None None c.shard_at.ensures.keeps
    c.shard_at.ensures.stands (c.directory.ensures ∙ ap (λ (s : ShardState). s.directory) c.state.ensures)
    (sym c.in_default.is ∙ c.find.ensures) (λ _. None)

pub returns : goal.returns
returns c =
    by_number c.args.node.now c.args.msisdn.now c.shard_at.result.now c.directory.result.now (Some c.in-Some.imsi) _ c.shard_at.ensures.keeps
    c.shard_at.ensures.stands (c.directory.ensures ∙ ap (λ (s : ShardState). s.directory) c.state.ensures)
    (sym c.in-Some.is ∙ c.find.ensures) c.record_of.ensures.value
