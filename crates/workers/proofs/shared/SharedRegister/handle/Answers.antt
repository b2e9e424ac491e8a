use Rattle.std.proofs.Common.{drop}
use Rattle.workers.specs.Shared.{jobs_of_receipts, numbers_of_jobs}
use Rattle.receipts.proofs.Rising.{apart_rising, same_moved}
use Rattle.workers.proofs.shared.SharedRegister.handle.Goals as goal

pub run_jobs-requires-clause-distinct : goal.run_jobs-requires-clause-distinct
run_jobs-requires-clause-distinct g c κs within = apart_rising (numbers_of_jobs (drop c.args.from c.args.self.now.jobs)) c.requires.rising

pub returns-in-None-clause-pairs : goal.returns-in-None-clause-pairs
returns-in-None-clause-pairs g c =
    let is = c.in_ok-receipts.ensures in
    same_moved (numbers_of_jobs (drop c.args.from c.args.self.now.jobs)) (jobs_of_receipts c.in_ok-receipts.receipts.items) is.one_each
    c.requires.rising is.rising
