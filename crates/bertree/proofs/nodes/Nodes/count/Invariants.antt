use Rattle.std.proofs.Common.{◌≡◌, ◌+◌, length}
use Rattle.bertree.specs.Nodes.{elements}
use Rattle.bertree.proofs.nodes.Nodes.count.Given as goal

abbrev pub invariant-loop-first : goal.invariant-loop-first
invariant-loop-first l = l.count + length (elements l.rest) ≡ length (elements l.self)

abbrev pub decreases-loop-first : goal.decreases-loop-first
decreases-loop-first l = length (elements l.rest)
