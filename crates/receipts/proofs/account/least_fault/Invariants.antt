use Rattle.std.proofs.Common.{map, take, ◌++◌, ◌≤◌}
use Rattle.std.specs.Prelude.{IfSome}
use Rattle.receipts.specs.Least.{LeastAmong}
use Rattle.receipts.specs.Journals.{journal_list}
use Rattle.receipts.proofs.account.least_fault.Given as goal

abbrev pub invariant-loop-job : goal.invariant-loop-job
invariant-loop-job l = LeastAmong (journal_list l.shards) l.jobs l.receipts (map (λ j. j.number) (take l.job-index l.jobs)) l.least
    × IfSome l.least (λ n. 1 ≤ n)

abbrev pub invariant-loop-receipt : goal.invariant-loop-receipt
invariant-loop-receipt l = LeastAmong (journal_list l.shards) l.jobs l.receipts
    (map (λ j. j.number) l.jobs ++ map (λ r. r.job) (take l.receipt-index l.receipts)) l.least × IfSome l.least (λ n. 1 ≤ n)
