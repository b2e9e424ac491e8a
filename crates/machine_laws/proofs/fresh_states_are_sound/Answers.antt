use Rattle.machine_laws.proofs.Growing.{begins_sound}
use Rattle.machine_laws.proofs.fresh_states_are_sound.Goals as goal

pub returns : goal.returns
returns c = λ S none loaded. begins_sound S none (λ x s e. ((loaded x s e).unmarked, (loaded x s e).purged, (loaded x s e).withdrawn))
