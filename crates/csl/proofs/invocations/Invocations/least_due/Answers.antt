use Rattle.std.proofs.Common.{subst}
use Rattle.csl.specs.Tables.{HaveTimers}
use Rattle.csl.proofs.Expiry.{none_due}
use Rattle.csl.proofs.invocations.Invocations.least_due.Goals as goal

pub returns-in_default-clause-none : goal.returns-in_default-clause-none
returns-in_default-clause-none c = none_due c.args.self.now c.self.inside.timers c.args.now
    (subst (λ l. HaveTimers l c.self.inside.timers) c.self.view_is c.self.invariant) c.in_default.ensures.none
