use Rattle.std.proofs.Common.{◌≡◌, ◌≤◌, ◌+◌, length}
use Rattle.texts.specs.Lines.{lines}
use Rattle.std.specs.Prelude.{option_map}
use Rattle.hlr_input.specs.Octets.{ids_in}
use Rattle.hlr_program.specs.Batches.{batch_of, behind_batch}
use Rattle.hlr_program.specs.Gathering.{progress}
use Rattle.hlr_program.proofs.GatherLemmas.{GoesOn}
use Rattle.hlr_program.proofs.batch.take_lines.Given as goal

abbrev pub invariant-lines : goal.invariant-lines
invariant-lines g l = record {
  shorter : length l.left.rest.now ≤ length l.fn.from.rest.now;
  behind : behind_batch (lines l.left.rest.now) ≡ behind_batch (lines l.fn.from.rest.now);
  number : l.left.before + length (batch_of (lines l.left.rest.now)) ≡ l.fn.from.before + length (batch_of (lines l.fn.from.rest.now));
  goes_on : GoesOn (ids_in (option_map (λ i. i.now) l.ids)) (progress l.fn.register l.fn.answers) (batch_of (lines l.fn.from.rest.now)) (progress l.register l.answers)
      (batch_of (lines l.left.rest.now));
}

abbrev pub decreases-lines : goal.decreases-lines
decreases-lines g l = length l.left.rest.now
