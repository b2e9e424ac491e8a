use Rattle.machine_laws.proofs.Openings.{opening_sound, opening_legal}
use Rattle.machine_laws.proofs.openings_are_sound.Goals as goal

pub returns-clause-whole : goal.returns-clause-whole
returns-clause-whole c = λ records directory hlr loaded. opening_sound records directory hlr loaded

pub returns-clause-of_shard : goal.returns-clause-of_shard
returns-clause-of_shard c = λ records directory hlr n loaded small. opening_legal records directory hlr n loaded small
