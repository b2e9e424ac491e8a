use Rattle.std.proofs.Common.{◌∙◌}
use Rattle.records.proofs.LoadLemmas.{on_true}
use Rattle.records.proofs.MovedLemmas.{imsis_before, view_moved}
use Rattle.records.proofs.records.Records.of_unsorted.Goals as goal

pub returns-clause-distinct : goal.returns-clause-distinct
returns-clause-distinct c =
    let ordered = rw c.deref.ensures.value at (on_true _ _ c.if-not-ascend.false c.ascend.ensures) in
    imsis_before c.args.all.items c.sort_unstable_by_key.new.self.items c.sort_unstable_by_key.ensures.permutation ordered

pub returns-clause-value : goal.returns-clause-value
returns-clause-value c =
    c.of_sorted.ensures
    ∙ view_moved c.args.all.items c.sort_unstable_by_key.new.self.items c.sort_unstable_by_key.ensures.permutation (returns-clause-distinct c)
