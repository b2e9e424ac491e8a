use Rattle.std.proofs.Common.{take}
use Rattle.receipts.specs.Marks.{AreMarked}
use Rattle.receipts.proofs.in_order.mark_places.Given as goal

abbrev pub invariant-loop-receipt : goal.invariant-loop-receipt
invariant-loop-receipt l = AreMarked (take l.receipt-index l.receipts) l.words
