use Rattle.std.proofs.Common.{◌+◌, ◌/◌, length}
use Rattle.std.specs.Prelude.{vec_len, vec_capacity}
use Rattle.bertree.proofs.Shorts.{HasRead, HasRoom}
use Rattle.bertree.proofs.short.+read_short_elements.Given as goal

abbrev pub decreases-read_short_elements : goal.decreases-read_short_elements
decreases-read_short_elements l = l.most_levels

abbrev pub invariant-loop-rest : goal.invariant-loop-rest
invariant-loop-rest l = HasRead l.octets l.most_levels l.fn.nodes.items l.nodes.items l.rest
    × HasRoom (vec_len l.nodes) (vec_capacity l.nodes) (vec_len l.fn.nodes + length l.octets / 2) (vec_capacity l.fn.nodes) l.rest

abbrev pub decreases-loop-rest : goal.decreases-loop-rest
decreases-loop-rest l = length l.rest
