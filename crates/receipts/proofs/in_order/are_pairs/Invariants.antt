use Rattle.std.proofs.Common.{take}
use Rattle.receipts.specs.Pairs.{ArePairs}
use Rattle.receipts.specs.Journals.{journal_list}
use Rattle.receipts.proofs.in_order.are_pairs.Given as goal

abbrev pub invariant-loop-index : goal.invariant-loop-index
invariant-loop-index l = ArePairs (journal_list l.shards) (take l.index l.jobs) (take l.index l.receipts)
