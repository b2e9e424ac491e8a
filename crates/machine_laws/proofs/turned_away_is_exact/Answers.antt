use Rattle.machine_laws.proofs.Turned.{turned_exact}
use Rattle.machine_laws.proofs.Refusing.{away_is}
use Rattle.machine_laws.proofs.turned_away_is_exact.Goals as goal

pub returns-clause-told : goal.returns-clause-told
returns-clause-told c = λ S e T a x step h. turned_exact S e T a x step h

pub returns-clause-tells : goal.returns-clause-tells
returns-clause-tells c = λ S e turn new T a turns t. away_is S e turn new T a turns t
