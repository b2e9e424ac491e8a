use Rattle.images.specs.Again.{IsReadAgain}
use Rattle.embed.proofs.ImageLemmas.{AllBelow}
use Rattle.embed.proofs.register.Register.law_shards_are_read.Given as goal

abbrev pub invariant-loop-shard : goal.invariant-loop-shard
invariant-loop-shard l = AllBelow IsReadAgain l.shards l.shard-index
