use Rattle.std.proofs.Common.{◌*◌, ◌<◌, length}
use Rattle.texts.specs.Lines.{lines}
use Rattle.workers.specs.declared.lot.TheConstants.{JOBS_OF_A_START}
use Rattle.hlr_program.proofs.SharingLemmas.{Sought}
use Rattle.hlr_program.proofs.sharing.has_long_batch.Given as goal

abbrev pub invariant-lines : goal.invariant-lines
invariant-lines l = record {
  sought : Sought (lines l.fn.script) (lines l.left.rest.now) l.count;
  few : l.count < 2 * JOBS_OF_A_START;
}

abbrev pub decreases-lines : goal.decreases-lines
decreases-lines l = length l.left.rest.now
