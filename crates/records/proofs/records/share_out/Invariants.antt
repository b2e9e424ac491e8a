use Rattle.std.proofs.Common.{◌≡◌, ◌++◌}
use Rattle.std.specs.Vec.Iter.{into_iter_items}
use Rattle.records.proofs.TakenLemmas.{AreTaken}
use Rattle.records.proofs.records.share_out.Given as goal

abbrev pub invariant-loop-found : goal.invariant-loop-found
invariant-loop-found l = record { whole : l.yielded ++ into_iter_items l.found-iterator ≡ l.fn.in_order.items; taken : AreTaken l.yielded l.parts.items }
