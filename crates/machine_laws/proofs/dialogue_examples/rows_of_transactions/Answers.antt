use Rattle.std.proofs.Common.{refl}
use Rattle.machine_laws.proofs.dialogue_examples.rows_of_transactions.Goals as goal

pub returns : goal.returns
returns c = (refl, refl, refl, refl, refl, refl, refl, refl, refl, refl, refl)
