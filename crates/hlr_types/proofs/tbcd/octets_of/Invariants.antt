use Rattle.std.proofs.Common.{◌-◌, take}
use Rattle.hlr_types.specs.Padding.{IsPadded}
use Rattle.hlr_types.specs.Words.{in_word}
use Rattle.hlr_types.proofs.PackLemmas.{IsUnwritten}
use Rattle.hlr_types.proofs.tbcd.octets_of.Given as goal

abbrev pub invariant-loop-rest : goal.invariant-loop-rest
invariant-loop-rest l = record { padded : IsPadded 8 l.items l.count; written : IsUnwritten l.rest (take l.count l.items) (in_word l.word) }

abbrev pub decreases-loop-rest : goal.decreases-loop-rest
decreases-loop-rest l = 8 - l.count
