use Rattle.hlr_program.proofs.PartLemmas.{Cutting}
use Rattle.hlr_program.proofs.alone.cut_all.Given as goal

abbrev pub invariant-loop-shard : goal.invariant-loop-shard
invariant-loop-shard l = Cutting l.fn.node l.shard l.node
