use Rattle.std.proofs.Common.{◌≡◌, ◌++◌, List, map, drop}
use Rattle.x690.specs.Tree.{Tree}
use Rattle.frames.specs.SentTrees.{reject_tree}
use Rattle.q773_comp.specs.Seen.{rejection}
use Rattle.outgoing.specs.Spelled.{spelled}
use Rattle.outgoing.proofs.written_messages.put_rejects.Given as goal

abbrev pub invariant-loop-place : goal.invariant-loop-place
invariant-loop-place l =
    (behind : List Tree) → l.fn.buffer ≡ spelled behind
    → l.buffer ≡ spelled (map reject_tree (map rejection (drop l.place l.rejects)) ++ behind)
