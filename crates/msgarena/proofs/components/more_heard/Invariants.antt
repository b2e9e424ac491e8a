use Rattle.std.proofs.Common.{◌≡◌, ◌++◌, ◌+◌, ◌≤◌, map, length}
use Rattle.std.specs.Prelude.{vec_capacity}
use Rattle.frames.specs.Heard.{all_heard}
use Rattle.bertree.specs.Nodes.{elements}
use Rattle.q773_comp.specs.Seen.{component}
use Rattle.msgarena.specs.Seen.{parameter}
use Rattle.msgarena.proofs.components.more_heard.Given as goal

-- what has been heard, and then what is left, is the whole, and there is room for it
abbrev pub invariant-loop-node : goal.invariant-loop-node
invariant-loop-node l =
    (map (component parameter) l.components.items ++ all_heard (elements l.rest) ≡ all_heard (elements l.nodes))
    × (length l.components.items + length (elements l.rest) ≤ vec_capacity l.components)

abbrev pub decreases-loop-node : goal.decreases-loop-node
decreases-loop-node l = length (elements l.rest)
