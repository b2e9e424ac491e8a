use Rattle.std.proofs.Common.{◌≡◌, ◌++◌, List, map, drop}
use Rattle.x690.specs.Tree.{Tree}
use Rattle.frames.specs.SentTrees.{teleservice_tree}
use Rattle.outgoing.specs.Spelled.{spelled}
use Rattle.outgoing.proofs.written_inserts.put_codes.Given as goal

abbrev pub invariant-loop-place : goal.invariant-loop-place
invariant-loop-place l =
    (behind : List Tree) → l.fn.buffer ≡ spelled behind
    → l.buffer ≡ spelled (map teleservice_tree (drop l.place l.codes) ++ behind)
