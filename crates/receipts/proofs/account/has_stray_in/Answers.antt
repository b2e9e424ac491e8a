use Rattle.std.proofs.Common.{below_more, arith, ◌<◌, count_by}
use Rattle.frames.specs.Account.{names_place}
use Rattle.receipts.proofs.account.has_stray_in.Goals as goal

pub loop-position-preserved : goal.loop-position-preserved
loop-position-preserved c = below_more (λ k. 0 < count_by (names_place c.args.shard k) c.args.receipts.now) _ c.loop-position.invariant
    (let is = c.count_named.ensures in omega arith)
