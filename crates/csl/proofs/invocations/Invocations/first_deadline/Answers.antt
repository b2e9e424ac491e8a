use Rattle.std.proofs.Common.{List, ℕ, subst}
use Rattle.machine.specs.Effect.{AreRising}
use Rattle.csl.specs.Tables.{HaveTimers, InvocationLists, invocations_at}
use Rattle.csl.proofs.First.{first_of}
use Rattle.csl.proofs.invocations.Invocations.first_deadline.Goals as goal

pub returns : goal.returns
returns c =
    let have = subst (λ l. HaveTimers l c.self.inside.timers) c.self.view_is c.self.invariant in
    let rising = subst (λ (l : InvocationLists). (id : List ℕ) → AreRising (invocations_at l id)) c.self.view_is c.law_rising.ensures in
    first_of c.args.self.now c.self.inside.timers have rising c.first_deadline.result c.first_deadline.ensures
