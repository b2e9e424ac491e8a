use Rattle.hlr_program.proofs.OperatorLemmas.{operator_gets}
use Rattle.hlr_program.proofs.laws.operator_gets.Goals as goal

pub returns : goal.returns
returns c = operator_gets
