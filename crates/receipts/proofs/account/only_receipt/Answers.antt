use Rattle.std.proofs.Common.{rules, eqb, eq-eqb, sym, ap, ◌∙◌}
use Rattle.frames.specs.Account.{Receipt}
use Rattle.receipts.proofs.Onlys.{not_only}
use Rattle.receipts.proofs.account.only_receipt.Goals as goal

pub returns-then-is_some : goal.returns-then-is_some
returns-then-is_some c =
    not_only (λ x. eqb x.job c.args.number) c.args.receipts.now c.loop-receipt.receipt-index c.receipt-item.result c.loop-receipt.found
    (search rules) c.receipt-item.is
    (eq-eqb _ _ (ap (λ (r : Receipt). r.job) (sym c.receipt.view_is) ∙ sym c.get.ensures.value ∙ c.if-get-number.true))
    (sym c.is_some.ensures ∙ c.if-is_some.true) c.loop-receipt.invariant
