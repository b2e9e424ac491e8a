use Rattle.std.proofs.Common.{refl}
use Rattle.machine_laws.proofs.state_examples.own_entries.Goals as goal

pub returns : goal.returns
returns c = refl
