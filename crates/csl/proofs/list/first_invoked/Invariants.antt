use Rattle.std.proofs.Common.{◌≡◌, ◌∷◌, ◌+◌, pos, map}
use Rattle.machine.specs.Outcome.{below, invoked}
use Rattle.csl.proofs.list.first_invoked.Given as goal

abbrev pub invariant-loop-further : goal.invariant-loop-further
invariant-loop-further l = l.list.items ≡ invoked l.now (pos 1) ∷ map (λ k. invoked l.now (pos (k + 2))) (below l.further)
