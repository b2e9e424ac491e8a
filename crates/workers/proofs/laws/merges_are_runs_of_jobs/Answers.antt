use Rattle.workers.proofs.MergedRuns as runs
use Rattle.workers.proofs.laws.merges_are_runs_of_jobs.Goals as goal

pub returns : goal.returns
returns c = runs.merges_are_runs_of_jobs
