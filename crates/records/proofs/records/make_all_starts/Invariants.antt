use Rattle.std.proofs.Common.{◌≡◌}
use Rattle.records.proofs.records.make_all_starts.Given as goal

abbrev pub invariant-loop-part : goal.invariant-loop-part
invariant-loop-part l = l.part-items ≡ l.initial.part-items
