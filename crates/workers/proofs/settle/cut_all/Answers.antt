use Rattle.std.proofs.Common.{arith, ◌<◌, length}
use Rattle.workers.proofs.Standing.{cut_more, cut_whole, keeps_more}
use Rattle.workers.proofs.settle.cut_all.Goals as goal

pub loop-shard-preserved : goal.loop-shard-preserved
loop-shard-preserved c =
    let at = c.loop-shard.invariant in
    let within : c.loop-shard.shard-index < length c.loop-shard.shards = omega arith in
    let now = c.cut_off.new.shard in
    record {
      cut = cut_more c.loop-shard.shards c.loop-shard.shard-index c.shard-item.result now within c.args.shards.now c.cut_off.ensures.cut at.cut;
      keeps = keeps_more c.loop-shard.shards c.loop-shard.shard-index c.shard-item.result now within at.keeps c.cut_off.ensures.keeps;
    }

pub returns-clause-cut : goal.returns-clause-cut
returns-clause-cut c = cut_whole _ _ c.loop-shard.shard-index (omega arith) c.loop-shard.invariant.cut
