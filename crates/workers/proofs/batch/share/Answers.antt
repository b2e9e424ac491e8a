use Rattle.std.proofs.Common.{arith, ap}
use Rattle.std.proofs.lemmas.Result.{MatchResult-at_ok}
use Rattle.workers.proofs.Moves.{begins, learns}
use Rattle.workers.proofs.Settling.{settles}
use Rattle.workers.proofs.batch.share.Goals as goal

pub bounded_with-requires-clause-rule : goal.bounded_with-requires-clause-rule
bounded_with-requires-clause-rule g c = begins

pub learn_as-requires-clause-rule : goal.learn_as-requires-clause-rule
learn_as-requires-clause-rule g c =
    let h = MatchResult-at_ok _ _ _ c.in_ok-receipts.was c.scoped-seat.ensures.1.1.0 in learns _ _ (ap (λ v. v.sends) h.sent) (ap (λ v. v.shares) h.sent)

pub returns : goal.returns
returns g c =
    let h = MatchResult-at_ok _ _ _ c.in_ok-receipts.was c.scoped-seat.ensures.1.1.0 in
    let same = c.learn_as.ensures.channel.2 in
    record { one_each = settles _ _ _ _ _ _ (omega arith) h c.learn_as.ensures.rule.1 }
