use Rattle.hlr_types.proofs.PlaceLemmas.{AreShifted}
use Rattle.hlr_types.proofs.digits.Digits.starts_with.Given as goal

abbrev pub invariant-loop-rest : goal.invariant-loop-rest
invariant-loop-rest l = AreShifted l.start l.rest l.self l.prefix

abbrev pub decreases-loop-rest : goal.decreases-loop-rest
decreases-loop-rest l = l.rest
