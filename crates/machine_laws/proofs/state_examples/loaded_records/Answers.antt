use Rattle.std.proofs.Common.{refl}
use Rattle.machine_laws.proofs.state_examples.loaded_records.Goals as goal

pub returns-clause-loaded : goal.returns-clause-loaded
returns-clause-loaded c = (
  record { unmarked = refl; purged = λ e. cc e; withdrawn = λ e. cc e },
  record { unmarked = refl; purged = λ e. refl; withdrawn = λ e. refl },
)

pub returns-clause-in_progress : goal.returns-clause-in_progress
returns-clause-in_progress c = λ loaded. cc loaded.unmarked

pub returns-clause-purged : goal.returns-clause-purged
returns-clause-purged c = λ loaded. cc (loaded.purged refl)

pub returns-clause-withdrawn : goal.returns-clause-withdrawn
returns-clause-withdrawn c = λ loaded. cc (loaded.withdrawn refl)
