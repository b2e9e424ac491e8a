use Rattle.hlrcore.specs.Shards.{ShardState}
use Rattle.embed.specs.Images.{AreListed}
use Rattle.embed.proofs.ImageLemmas.{AllBelow}
use Rattle.embed.proofs.register.Register.law_records_in_order.Given as goal

abbrev pub invariant-loop-shard : goal.invariant-loop-shard
invariant-loop-shard l = AllBelow (λ (s : ShardState). AreListed s.records) l.shards l.shard-index
