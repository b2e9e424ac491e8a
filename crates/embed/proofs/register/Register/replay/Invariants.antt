use Rattle.std.proofs.Common.{length}
use Rattle.embed.proofs.ReplayLemmas.{IsAt}
use Rattle.embed.proofs.register.Register.replay.Given as goal

abbrev pub invariant-lines : goal.invariant-lines
invariant-lines l = IsAt l.fn.self l.text l.self l.left l.number

abbrev pub decreases-lines : goal.decreases-lines
decreases-lines l = length l.left
