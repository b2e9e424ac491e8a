use Rattle.std.proofs.Common.{List, ℕ, subst}
use Rattle.machine.specs.Effect.{AreRising}
use Rattle.csl.specs.Tables.{InvocationLists, invocations_at, lists_of}
use Rattle.csl.proofs.Putting.{rising_at}
use Rattle.csl.proofs.lists.Lists.law_rising.Goals as goal

pub returns : goal.returns
returns c =
    subst (λ (l : InvocationLists). (id : List ℕ) → AreRising (invocations_at l id)) c.self.view_is
    (λ id. rising_at (lists_of c.self.inside.by_dialogue) id c.self.invariant)
