use Rattle.machine_laws.proofs.Numbering.{number_stays}
use Rattle.machine_laws.proofs.numbers_stay.Goals as goal

pub returns : goal.returns
returns c = λ S e T a imsi step. number_stays S e T a imsi step
