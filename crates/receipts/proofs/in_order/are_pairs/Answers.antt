use Rattle.std.proofs.Common.{arith, refl}
use Rattle.receipts.specs.Journals.{journal_list}
use Rattle.receipts.proofs.Pairs.{pairs_more}
use Rattle.receipts.proofs.in_order.are_pairs.Goals as goal

pub loop-index-preserved : goal.loop-index-preserved
loop-index-preserved c =
    pairs_more (journal_list c.args.shards.now) c.args.jobs.now c.args.receipts.now c.loop-index.index c.index-jobs-index.result c.index-receipts-index.result
    (omega arith) (omega arith) c.index-jobs-index.is c.index-receipts-index.is
    c.loop-index.invariant (c.if-not-is_pair.ensures refl)
