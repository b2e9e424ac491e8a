use Rattle.std.proofs.Common.{◌≡◌, eqb, filter, take}
use Rattle.std.specs.Option.{option_copied, option_to_list}
use Rattle.receipts.proofs.account.only_receipt.Given as goal

abbrev pub invariant-loop-receipt : goal.invariant-loop-receipt
invariant-loop-receipt l = filter (λ r. eqb r.job l.number) (take l.receipt-index l.receipts) ≡ option_to_list (option_copied l.found)
