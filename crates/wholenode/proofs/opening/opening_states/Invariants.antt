use Rattle.std.proofs.Common.{◌≡◌, ◌++◌, length}
use Rattle.records.specs.Parts.{AreParts}
use Rattle.wholenode.specs.Opening.{AreBeginning}
use Rattle.wholenode.proofs.opening.opening_states.Given as goal

abbrev pub invariant-loop-records : goal.invariant-loop-records
invariant-loop-records l =
    (goal.iterator-loop-records).can_next l.records-iterator
    × (goal.iterator-loop-records).is_finite l.records-iterator
    × (l.number ≡ length l.yielded)
    × AreBeginning l.fn.loaded l.fn.start l.number l.states.items
    × AreParts l.fn.loaded.records (l.yielded ++ l.records-iterator.rest.items)
