use Rattle.std.proofs.Common.{sym, ap, ◌∙◌}
use Rattle.frames.specs.Account.{Receipt}
use Rattle.receipts.specs.Receipts.{place_of}
use Rattle.receipts.proofs.Accounts.{accounted}
use Rattle.receipts.proofs.account.is_accounted.Goals as goal

pub returns-in-Ok : goal.returns-in-Ok
returns-in-Ok c =
    let is_ok = ap (λ (r : Receipt). r.place) (sym c.receipt.view_is) ∙ ap place_of c.in-Ok.is in
    accounted _ _ _ _ _ _ _ _ c.in-Some.ensures c.in-Some-only_receipt.ensures is_ok c.is_answered.ensures.0 c.is_answered.ensures.1
