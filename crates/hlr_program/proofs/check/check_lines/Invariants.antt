use Rattle.std.proofs.Common.{◌≡◌, ◌≤◌, ◌+◌, length}
use Rattle.texts.specs.Lines.{lines}
use Rattle.hlr_program.specs.Batches.{IsGood, IsBad}
use Rattle.hlr_program.proofs.CheckLaws.{Completes, Lettered}
use Rattle.hlr_program.proofs.check.check_lines.Given as goal

abbrev pub invariant-lines : goal.invariant-lines
invariant-lines l = record {
  good : Completes IsGood IsBad (lines l.fn.text) 0 (lines l.left.rest.now) l.left.before;
  plain : Lettered (lines l.fn.text) l.lettered (lines l.left.rest.now);
  count : l.left.before + length (lines l.left.rest.now) ≡ length (lines l.fn.text);
  within : l.left.before + length l.left.rest.now ≤ length l.fn.text;
}

abbrev pub decreases-lines : goal.decreases-lines
decreases-lines l = length l.left.rest.now
