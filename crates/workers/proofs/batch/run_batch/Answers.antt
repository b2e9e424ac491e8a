use Rattle.std.proofs.Common.{map}
use Rattle.workers.proofs.GoingLemmas.{moved_on, rises_on}
use Rattle.workers.proofs.batch.run_batch.Goals as goal

pub returns-clause-one_each : goal.returns-clause-one_each
returns-clause-one_each g c =
    moved_on _ (λ v. map (λ r. r.job) v.items) c.in_ok-done.done.receipts c.by_number.result c.in_ok-done.ensures.one_each c.by_number.ensures.same

pub returns-clause-rising : goal.returns-clause-rising
returns-clause-rising g c =
    rises_on _ (λ v. map (λ r. r.job) v.items) c.in_ok-done.done.receipts c.by_number.result c.requires.distinct c.in_ok-done.ensures.one_each
    c.by_number.ensures.rising
