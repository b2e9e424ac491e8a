use Rattle.std.proofs.Common.{refl}
use Rattle.hlr_program.proofs.examples.worked_batches.Goals as goal

pub returns : goal.returns
returns c = record { three = refl; last_w = refl; before_third = refl }
