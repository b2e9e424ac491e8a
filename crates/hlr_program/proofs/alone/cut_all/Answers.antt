use Rattle.std.proofs.Common.{arith}
use Rattle.hlr_program.proofs.PartLemmas.{cutting_ends, cutting_goes_on}
use Rattle.hlr_program.proofs.alone.cut_all.Goals as goal

pub loop-shard-preserved : goal.loop-shard-preserved
loop-shard-preserved c = cutting_goes_on _ c.loop-shard.node _
    c.loop-shard.shard c.loop-shard.invariant c.drop_journal.ensures.drops c.drop_journal.ensures.keeps

pub returns-clause-cut : goal.returns-clause-cut
returns-clause-cut c = cutting_ends _ _ c.loop-shard.shard (omega arith) c.loop-shard.invariant
