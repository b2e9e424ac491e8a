use Rattle.machine_laws.proofs.Holding.{holders_run}
use Rattle.machine_laws.proofs.holders_are_registers.Goals as goal

pub returns : goal.returns
returns c = λ base S entries x sound run. holders_run base S entries x sound run
