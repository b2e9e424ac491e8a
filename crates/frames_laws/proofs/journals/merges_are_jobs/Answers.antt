use Rattle.frames_laws.proofs.Laws as laws
use Rattle.frames_laws.proofs.MergedJobs.{merged_jobs}
use Rattle.frames_laws.proofs.journals.merges_are_jobs.Goals as goal

pub returns-clause-entries : goal.returns-clause-entries
returns-clause-entries c = merged_jobs

pub returns-clause-runs : goal.returns-clause-runs
returns-clause-runs c = λ bases states journal_of list jobs receipts merge legal directory hlr sixteen is account merges. record {
  run = laws.merges_are_runs bases states journal_of merge legal directory hlr merges;
  jobs_are = merged_jobs journal_of list jobs receipts merge sixteen is account merges;
}
