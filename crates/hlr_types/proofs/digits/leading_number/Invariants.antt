use Rattle.std.proofs.Common.{◌≡◌}
use Rattle.hlr_types.proofs.FrontLemmas.{IsFront}
use Rattle.hlr_types.proofs.digits.leading_number.Given as goal

abbrev pub invariant-loop-character : goal.invariant-loop-character
invariant-loop-character l = record { all : l.count ≡ l.character-index; front : IsFront l.number l.character-index l.text }
