use Rattle.machine_laws.proofs.Purging.{foreign_purge}
use Rattle.machine_laws.proofs.foreign_purges_change_nothing.Goals as goal

pub returns : goal.returns
returns c = λ S from origin name components imsi vlr T a step argument other. foreign_purge S from origin name components imsi vlr T a step argument other
