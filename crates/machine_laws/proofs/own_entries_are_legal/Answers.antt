use Rattle.machine_laws.proofs.OwnJournals.{isolation}
use Rattle.machine_laws.proofs.own_entries_are_legal.Goals as goal

pub returns : goal.returns
returns c = λ n base S journal x legal none. isolation n base S journal x legal none
