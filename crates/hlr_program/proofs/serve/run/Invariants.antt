use Rattle.std.proofs.Common.{◌≡◌, false, [], length}
use Rattle.std.specs.List.{AllByRecursion}
use Rattle.texts.specs.Lines.{lines}
use Rattle.hlr_program.specs.Batches.{HasIds}
use Rattle.hlr_program.specs.Registers.{part_of}
use Rattle.hlr_program.proofs.ScriptLemmas.{AtPlace}
use Rattle.hlr_program.proofs.serve.run.Given as goal

abbrev pub invariant-batches : goal.invariant-batches
invariant-batches g l = record {
  at : AtPlace l.fn.register (lines l.script.text.items) (g.W.Write.contents l.fn.out) (g.W.Write.contents l.out) l.answers.letters l.register
      l.left.rest.now l.left.before;
  plain : l.script.lettered ≡ false → AllByRecursion (HasIds 0) (lines l.left.rest.now);
  none : part_of l.register ≡ [];
  blank : l.answers.text.items ≡ [];
}

abbrev pub decreases-batches : goal.decreases-batches
decreases-batches g l = length l.left.rest.now
