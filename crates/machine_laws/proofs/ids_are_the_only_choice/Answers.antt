use Rattle.machine_laws.proofs.Determined.{determined}
use Rattle.machine_laws.proofs.ids_are_the_only_choice.Goals as goal

pub returns : goal.returns
returns c = λ S e T U a b step pace i. determined S e T U a b step pace i
