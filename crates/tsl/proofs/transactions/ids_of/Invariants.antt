use Rattle.std.proofs.Common.{◌≡◌, ℕ, ◌++◌, map}
use Rattle.tsl.specs.declared.transactions.Entry.{Entry}
use Rattle.tsl.specs.Table.{ids_of_entries}
use Rattle.tsl.proofs.transactions.ids_of.Given as goal

abbrev pub invariant-loop-entry : goal.invariant-loop-entry
invariant-loop-entry l = l.ids.items ++ map (λ (e : ℕ × Entry). e.1.id) l.entry-iterator ≡ ids_of_entries l.entries
