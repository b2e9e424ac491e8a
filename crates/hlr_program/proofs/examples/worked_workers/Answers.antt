use Rattle.std.proofs.Common.{refl}
use Rattle.texts.specs.Lines.{lines}
use Rattle.hlr_program.proofs.examples.worked_workers.Goals as goal

pub returns : goal.returns
unfolding lines
returns c = record { long_batch = refl; short_batches = refl; not_asked_for = refl }
