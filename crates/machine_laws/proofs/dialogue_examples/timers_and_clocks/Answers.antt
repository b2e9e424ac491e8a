use Rattle.std.proofs.Common.{refl}
use Rattle.machine.specs.Keys.{put, put_at, shard_of, shard_of_id}
use Rattle.machine.specs.State.{local_of, local_of_nobody}
use Rattle.machine.specs.Effect.{effect, conclusion_of}
use Rattle.machine.specs.Contexts.{accepted, context_of, refused_name}
use Rattle.machine.specs.Opening.{opening}
use Rattle.machine_laws.proofs.dialogue_examples.timers_and_clocks.Goals as goal

pub returns-clause-timers : goal.returns-clause-timers
unfolding put put_at local_of local_of_nobody effect conclusion_of accepted context_of refused_name shard_of shard_of_id opening
returns-clause-timers c = refl

pub returns-clause-later : goal.returns-clause-later
unfolding put put_at local_of local_of_nobody effect conclusion_of accepted context_of refused_name shard_of shard_of_id opening
returns-clause-later c = refl

pub returns-clause-forgotten : goal.returns-clause-forgotten
unfolding put put_at local_of local_of_nobody effect conclusion_of accepted context_of refused_name shard_of shard_of_id opening
returns-clause-forgotten c = refl

pub returns-clause-marked : goal.returns-clause-marked
unfolding put put_at local_of local_of_nobody effect conclusion_of accepted context_of refused_name shard_of shard_of_id opening
returns-clause-marked c = refl

pub returns-clause-clocks : goal.returns-clause-clocks
unfolding put put_at local_of local_of_nobody effect conclusion_of accepted context_of refused_name shard_of shard_of_id opening
returns-clause-clocks c = (refl, refl)
