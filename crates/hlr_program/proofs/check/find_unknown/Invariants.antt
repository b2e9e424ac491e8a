use Rattle.std.proofs.Common.{length}
use Rattle.std.specs.List.{AllByRecursion}
use Rattle.texts.specs.Lines.{lines}
use Rattle.hlr_program.specs.Batches.{HasIds, IsGood, LacksId, batch_of}
use Rattle.hlr_program.proofs.CheckLaws.{Completes}
use Rattle.hlr_program.proofs.check.find_unknown.Given as goal

abbrev pub invariant-lines : goal.invariant-lines
invariant-lines l = record {
  completes : Completes (HasIds l.known) (LacksId l.known) (batch_of (lines l.fn.from.rest.now)) l.fn.from.before
      (batch_of (lines l.left.rest.now)) l.left.before;
  good : AllByRecursion IsGood (batch_of (lines l.left.rest.now));
}

abbrev pub decreases-lines : goal.decreases-lines
decreases-lines l = length l.left.rest.now
