use Rattle.std.proofs.Common.{ap, arith}
use Rattle.x690.specs.Tree.{levels}
use Rattle.x690.proofs.Spellings.{Spells-unique}
use Rattle.bertree.specs.Nodes.{tree}
use Rattle.bertree.proofs.read.read_tree.Goals as goal

pub returns-in-Some-clause-tree : goal.returns-in-Some-clause-tree
returns-in-Some-clause-tree c = λ short t spells within. Spells-unique _ (tree c.in-Some.node) t c.in-Some.ensures.0 spells

pub returns-in-Some-clause-deep_tree : goal.returns-in-Some-clause-deep_tree
returns-in-Some-clause-deep_tree c = λ short (t, spells, deep).
    let found = c.in-Some.ensures in
    let same = ap levels (Spells-unique _ t (tree c.in-Some.node) spells found.0) in
    absurd (omega (arith, found.1))

pub returns-then-levels-gt-MAX_LEVELS-clause-tree : goal.returns-then-levels-gt-MAX_LEVELS-clause-tree
returns-then-levels-gt-MAX_LEVELS-clause-tree c = λ short t spells within.
    let found = c.in_ok-node.ensures.ok in
    let same = ap levels (Spells-unique _ t (tree c.in_ok-node.node) spells found.0) in
    absurd (omega (arith, found.1))

pub returns-clause-tree : goal.returns-clause-tree
returns-clause-tree c = λ short t spells within. Spells-unique _ (tree c.in_ok-node.node) t c.in_ok-node.ensures.ok.0 spells

pub returns-clause-deep_tree : goal.returns-clause-deep_tree
returns-clause-deep_tree c = λ short (t, spells, deep).
    let found = c.in_ok-node.ensures.ok in
    let same = ap levels (Spells-unique _ t (tree c.in_ok-node.node) spells found.0) in
    absurd (omega (arith, found.1))
