use Rattle.std.proofs.Common.{◌≡◌, ◌++◌}
use Rattle.std.specs.Prelude.{map as each}
use Rattle.std.specs.List.{All}
use Rattle.shardlog.specs.Log.{LogKeeps, fresh}
use Rattle.wholenode.proofs.opening.with_journals.Given as goal

abbrev pub invariant-loop-state : goal.invariant-loop-state
invariant-loop-state l =
    (goal.iterator-loop-state).can_next l.state-iterator
    × (goal.iterator-loop-state).is_finite l.state-iterator
    × (l.shards.items ≡ each (fresh l.fn.keep) l.yielded)
    × All LogKeeps l.shards.items
    × (l.yielded ++ l.state-iterator.rest.items ≡ l.fn.states.items)
