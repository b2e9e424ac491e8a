use Rattle.std.proofs.Common.{ℕ, List, length}
use Rattle.texts.specs.Lines.{lines}
use Rattle.hlr_program.specs.Batches.{batch_of}
use Rattle.hlr_program.proofs.AheadLemmas.{Counts}
use Rattle.hlr_program.proofs.ahead.count_events.Given as goal

abbrev pub invariant-lines : goal.invariant-lines
invariant-lines l = (ids : List (List ℕ)) → Counts ids (batch_of (lines l.from.rest.now)) (batch_of (lines l.left.rest.now)) l.count

abbrev pub decreases-lines : goal.decreases-lines
decreases-lines l = length l.left.rest.now
