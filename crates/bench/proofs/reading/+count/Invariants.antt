use Rattle.std.proofs.Common.{length}
use Rattle.bertree.specs.Nodes.{elements}
use Rattle.bench.proofs.reading.+count.Given as goal

abbrev pub decreases-count : goal.decreases-count
decreases-count l = l.levels

abbrev pub decreases-loop-child : goal.decreases-loop-child
decreases-loop-child l = length (elements l.rest)
