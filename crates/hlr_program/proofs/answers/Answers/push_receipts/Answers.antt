use Rattle.std.proofs.Common.{◌≡◌, ◌<◌, length, get_or, rules}
use Rattle.workers.specs.Shared.{sent_at}
use Rattle.hlr_program.specs.Answered.{so_far}
use Rattle.hlr_program.proofs.PrintLemmas.{prints_list_more}
use Rattle.hlr_program.proofs.answers.Answers.push_receipts.Goals as goal

pub loop-receipt-preserved : goal.loop-receipt-preserved
loop-receipt-preserved c =
    let lt : c.loop-receipt.receipt-index < length c.args.receipts.now = search rules in
    let is : c.receipt-item.result ≡ get_or c.args.receipts.now c.loop-receipt.receipt-index c.receipt-item.result = search rules in
    prints_list_more (λ r. sent_at r.place) (so_far c.args.self.now) (so_far c.loop-receipt.self) (so_far c.push_receipt.new.self) c.args.receipts.now
    c.loop-receipt.receipt-index c.receipt-item.result lt is c.loop-receipt.invariant c.in_ok-push_receipt.ensures
