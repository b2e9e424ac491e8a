use Rattle.std.proofs.Common.{sym, subst, ◌-◌}
use Rattle.machine.specs.Effect.{AreRising}
use Rattle.csl.proofs.Invoking.{first_rising}
use Rattle.csl.proofs.invocations.Invocations.invoke_each.Goals as goal

pub replace-requires : goal.replace-requires
replace-requires c = subst AreRising (sym c.in_ok-list.ensures) (first_rising c.args.now (c.args.count - 1))
