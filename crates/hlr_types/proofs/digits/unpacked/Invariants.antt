use Rattle.std.proofs.Common.{◌-◌, length}
use Rattle.hlr_types.specs.Words.{in_word}
use Rattle.hlr_types.proofs.PackLemmas.{IsLeft}
use Rattle.hlr_types.proofs.digits.unpacked.Given as goal

abbrev pub invariant-loop-rest : goal.invariant-loop-rest
invariant-loop-rest l = IsLeft l.rest l.list (in_word l.word)

abbrev pub decreases-loop-rest : goal.decreases-loop-rest
decreases-loop-rest l = 16 - length l.list
