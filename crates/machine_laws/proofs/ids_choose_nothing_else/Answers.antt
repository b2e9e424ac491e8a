use Rattle.machine_laws.proofs.Determined.{closes_alike, takes_alike}
use Rattle.machine_laws.proofs.ids_choose_nothing_else.Goals as goal

pub returns-clause-taken : goal.returns-clause-taken
returns-clause-taken c = takes_alike

pub returns-clause-closed : goal.returns-clause-closed
returns-clause-closed c = closes_alike
