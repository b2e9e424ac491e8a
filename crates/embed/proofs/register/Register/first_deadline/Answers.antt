use Rattle.std.proofs.Common.{subst}
use Rattle.machine.specs.Deadlines.{IsFirst}
use Rattle.embed.specs.Lookups.{IsTimerOf}
use Rattle.embed.specs.Registers.{RegisterState}
use Rattle.embed.proofs.register.Register.first_deadline.Goals as goal

pub returns : goal.returns
returns c =
    subst (λ (r : RegisterState). IsFirst (IsTimerOf r.node) c.first_deadline.result) c.self.view_is c.first_deadline.ensures
