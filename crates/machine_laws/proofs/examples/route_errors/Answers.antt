use Rattle.std.proofs.Common.{refl}
use Rattle.machine.specs.Keys.{put, put_at, shard_of, shard_of_id}
use Rattle.machine.specs.State.{local_of, local_of_nobody}
use Rattle.machine.specs.Effect.{effect, conclusion_of}
use Rattle.machine.specs.Contexts.{accepted, context_of, refused_name}
use Rattle.machine.specs.Opening.{opening}
use Rattle.machine_laws.proofs.examples.route_errors.Goals as goal

pub returns-clause-errors : goal.returns-clause-errors
unfolding put put_at local_of local_of_nobody effect conclusion_of accepted context_of refused_name shard_of shard_of_id opening
returns-clause-errors c = (refl, refl, refl)

pub returns-clause-shard : goal.returns-clause-shard
unfolding put put_at local_of local_of_nobody effect conclusion_of accepted context_of refused_name shard_of shard_of_id opening
returns-clause-shard c = refl

pub returns-clause-services : goal.returns-clause-services
unfolding put put_at local_of local_of_nobody effect conclusion_of accepted context_of refused_name shard_of shard_of_id opening
returns-clause-services c = refl
