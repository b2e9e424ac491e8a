use Rattle.std.proofs.Common.{◌∙◌}
use Rattle.records.proofs.LoadLemmas.{on_true}
use Rattle.records.proofs.MovedLemmas.{distinct_before, entries_moved}
use Rattle.records.proofs.directory.Directory.of_entries.Goals as goal

pub returns-clause-distinct : goal.returns-clause-distinct
returns-clause-distinct c =
    let ordered = rw c.deref.ensures.value at (on_true _ _ c.if-not-ascend.false c.ascend.ensures) in
    distinct_before c.args.entries.items c.sort_unstable_by_key.new.self.items c.sort_unstable_by_key.ensures.permutation ordered

pub returns-clause-value : goal.returns-clause-value
returns-clause-value c =
    c.over.ensures
    ∙ entries_moved c.args.entries.items c.sort_unstable_by_key.new.self.items c.sort_unstable_by_key.ensures.permutation (returns-clause-distinct c)
