use Rattle.machine_laws.proofs.Holding.{update_began}
use Rattle.machine_laws.proofs.updates_have_their_digits.Goals as goal

pub returns : goal.returns
returns c = λ base S entries i d register invoke sound run there kind. update_began base S entries i d register invoke sound run there kind
