use Rattle.std.proofs.Common.{◌≡◌, eqb, filter, take}
use Rattle.std.specs.Option.{option_copied, option_to_list}
use Rattle.receipts.proofs.account.only_job.Given as goal

abbrev pub invariant-loop-job : goal.invariant-loop-job
invariant-loop-job l = filter (λ j. eqb j.number l.number) (take l.job-index l.jobs) ≡ option_to_list (option_copied l.found)
