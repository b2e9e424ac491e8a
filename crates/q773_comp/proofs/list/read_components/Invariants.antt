use Rattle.std.proofs.Common.{◌≡◌, ◌++◌, map, length}
use Rattle.frames.specs.Components.{components_of}
use Rattle.bertree.specs.Nodes.{elements}
use Rattle.q773_comp.specs.Seen.{seen}
use Rattle.q773_comp.proofs.list.read_components.Given as goal

-- what has been read, and then what is left, is the whole
abbrev pub invariant-loop-node : goal.invariant-loop-node
invariant-loop-node l = map seen l.components.items ++ components_of (elements l.rest) ≡ components_of (elements l.nodes)

abbrev pub decreases-loop-node : goal.decreases-loop-node
decreases-loop-node l = length (elements l.rest)
