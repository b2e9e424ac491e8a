use Rattle.csl.proofs.Parameters.{parameters_have_no_effect, parameters_move_nothing}
use Rattle.csl.proofs.laws.law_parameters_have_no_effect.Goals as goal

pub returns-clause-effect : goal.returns-clause-effect
returns-clause-effect g c = λ f now offer vs cs. parameters_have_no_effect f now offer vs cs

pub returns-clause-after : goal.returns-clause-after
returns-clause-after g c = λ f now vs cs. parameters_move_nothing f now vs cs
