use Rattle.std.proofs.Common.{arith, ap, length}
use Rattle.bertree.proofs.Trees.{elements-length}
use Rattle.bertree.proofs.nodes.Nodes.count.Goals as goal

pub overflow_add-count : goal.overflow_add-count
overflow_add-count c =
    omega (arith, c.loop-first.invariant, elements-length c.args.self, ap length c.in-Some.ensures.some, c.well_formed)
