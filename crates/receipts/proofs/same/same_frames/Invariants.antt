use Rattle.std.proofs.Common.{◌≡◌, take, map}
use Rattle.hlrcore.specs.Frames.{raw_out}
use Rattle.receipts.proofs.same.same_frames.Given as goal

abbrev pub invariant-loop-index : goal.invariant-loop-index
invariant-loop-index l = map raw_out (take l.index l.left) ≡ map raw_out (take l.index l.right)
