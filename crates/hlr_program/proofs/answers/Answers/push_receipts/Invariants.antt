use Rattle.std.proofs.Common.{take}
use Rattle.hlr_program.specs.Answered.{frames_for, so_far}
use Rattle.hlr_program.specs.Printed.{Prints}
use Rattle.hlr_program.proofs.answers.Answers.push_receipts.Given as goal

abbrev pub invariant-loop-receipt : goal.invariant-loop-receipt
invariant-loop-receipt l = Prints (so_far l.fn.self) (frames_for (take l.receipt-index l.receipts)) (so_far l.self)
