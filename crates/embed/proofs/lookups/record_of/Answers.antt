use Rattle.std.proofs.Common.{ap, ◌∙◌}
use Rattle.hlrcore.specs.Shards.{ShardState}
use Rattle.embed.proofs.LookupLemmas.{record_found, record_whole}
use Rattle.embed.proofs.lookups.record_of.Goals as goal

pub returns-clause-value : goal.returns-clause-value
returns-clause-value c =
    record_found c.args.node.now c.args.imsi.now c.shard_of.result c.shard_at.result.now c.records.result.now c.get.result
    c.shard_of.ensures.value c.shard_at.ensures.stands (c.records.ensures ∙ ap (λ (s : ShardState). s.records) c.state.ensures) c.get.ensures.found

pub returns-clause-whole : goal.returns-clause-whole
returns-clause-whole c =
    record_whole c.args.node.now c.args.imsi.now c.shard_of.result c.shard_at.result.now c.records.result.now c.get.result
    c.shard_of.ensures.value c.shard_at.ensures.stands (c.records.ensures ∙ ap (λ (s : ShardState). s.records) c.state.ensures) c.get.ensures.found
