use Rattle.std.proofs.Common.{true≢false, sym}
use Rattle.receipts.proofs.account.reconcile.Goals as goal

pub returns-then-has_stray-clause-ok : goal.returns-then-has_stray-clause-ok
returns-then-has_stray-clause-ok g c =
    let stray = c.if-has_stray.ensures in ((λ e. absurd (true≢false (sym e))), λ all. absurd (all.none_stray stray.0 stray.1 stray.2))
