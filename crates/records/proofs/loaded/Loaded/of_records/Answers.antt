use Rattle.std.proofs.Common.{sym, subst}
use Rattle.records.specs.Fresh.{AreFresh}
use Rattle.records.specs.Ordered.{AreDistinct}
use Rattle.records.proofs.FaultlessLemmas.{are_apart, fresh_by_imsi}
use Rattle.records.proofs.loaded.Loaded.of_records.Goals as goal

pub invariant_of-result : goal.invariant_of-result
invariant_of-result c = subst AreFresh (sym c.in-Some-of_unsorted.ensures.value) (fresh_by_imsi c.args.all.items c.requires.fresh)

pub returns-clause-apart : goal.returns-clause-apart
returns-clause-apart c =
    are_apart c.args.all.items c.in-Some-of_unsorted.ensures.distinct
    (rw c.deref.ensures.value at (subst AreDistinct c.in_ok-entries.ensures c.in-Some.ensures.distinct))
