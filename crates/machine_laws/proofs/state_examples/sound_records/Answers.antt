use Rattle.std.proofs.Common.{refl}
use Rattle.machine_laws.proofs.state_examples.sound_records.Goals as goal

pub returns-clause-purged : goal.returns-clause-purged
returns-clause-purged c = record { mark = tt; purged = λ e. cc e; withdrawn = λ e. cc e }

pub returns-clause-nowhere : goal.returns-clause-nowhere
returns-clause-nowhere c = λ sound. cc (sound.purged refl)

pub returns-clause-marked : goal.returns-clause-marked
returns-clause-marked c = λ sound. sound.mark
