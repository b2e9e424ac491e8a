use Rattle.std.proofs.Common.{length}
use Rattle.texts.specs.Lines.{lines}
use Rattle.records.proofs.FaultlessLemmas.{IsReadTo}
use Rattle.records.proofs.load.read_each.Given as goal

abbrev pub invariant-loop-rest : goal.invariant-loop-rest
invariant-loop-rest l = IsReadTo l.version l.all.items (lines l.rest) (lines l.fn.text)

abbrev pub decreases-loop-rest : goal.decreases-loop-rest
decreases-loop-rest l = length l.rest
