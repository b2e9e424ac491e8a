use Rattle.machine_laws.proofs.Starting.{starts_of_operation}
use Rattle.machine_laws.proofs.what_starts_is_of_its_context.Goals as goal

pub returns : goal.returns
returns c = λ now context vs components invoke h e. starts_of_operation now context vs invoke components h.0 e
