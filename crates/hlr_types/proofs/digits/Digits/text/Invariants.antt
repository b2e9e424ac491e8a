use Rattle.std.proofs.Common.{◌-◌, take}
use Rattle.hlr_types.specs.Padding.{IsPadded}
use Rattle.hlr_types.proofs.PrintLemmas.{IsPrinted}
use Rattle.hlr_types.proofs.digits.Digits.text.Given as goal

abbrev pub invariant-loop-rest : goal.invariant-loop-rest
invariant-loop-rest l = record { padded : IsPadded 16 l.items l.count; printed : IsPrinted l.rest (take l.count l.items) l.self }

abbrev pub decreases-loop-rest : goal.decreases-loop-rest
decreases-loop-rest l = 16 - l.count
