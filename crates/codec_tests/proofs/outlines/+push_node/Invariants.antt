use Rattle.std.proofs.Common.{length}
use Rattle.bertree.specs.Nodes.{elements}
use Rattle.codec_tests.proofs.outlines.+push_node.Given as goal

abbrev pub decreases-push_node : goal.decreases-push_node
decreases-push_node l = l.levels

abbrev pub decreases-loop-child : goal.decreases-loop-child
decreases-loop-child l = length (elements l.rest)
