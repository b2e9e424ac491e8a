use Rattle.machine_laws.proofs.OneByOne.{moves_by_row}
use Rattle.machine_laws.proofs.Rising.{rising_map}
use Rattle.csl.specs.Seen.{heard}
use Rattle.csl.specs.Tables.{invocations_at}
use Rattle.csl.proofs.laws.law_moves_are_rows.Goals as goal

pub returns : goal.returns
returns g c = λ lists id now offer k j x rising is. moves_by_row now offer (invocations_at lists id) (rising_map (invocations_at lists id) rising) j
    (heard k) x is
