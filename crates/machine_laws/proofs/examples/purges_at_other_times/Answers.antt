use Rattle.std.proofs.Common.{refl}
use Rattle.machine.specs.Keys.{put, put_at, shard_of, shard_of_id}
use Rattle.machine.specs.State.{local_of, local_of_nobody}
use Rattle.machine.specs.Effect.{effect, conclusion_of}
use Rattle.machine.specs.Contexts.{accepted, context_of, refused_name}
use Rattle.machine.specs.Opening.{opening}
use Rattle.machine_laws.proofs.examples.purges_at_other_times.Goals as goal

pub returns-clause-without_number : goal.returns-clause-without_number
unfolding put put_at local_of local_of_nobody effect conclusion_of accepted context_of refused_name shard_of shard_of_id opening
returns-clause-without_number c = refl

pub returns-clause-without_register : goal.returns-clause-without_register
unfolding put put_at local_of local_of_nobody effect conclusion_of accepted context_of refused_name shard_of shard_of_id opening
returns-clause-without_register c = refl

pub returns-clause-twice : goal.returns-clause-twice
unfolding put put_at local_of local_of_nobody effect conclusion_of accepted context_of refused_name shard_of shard_of_id opening
returns-clause-twice c = refl

pub returns-clause-withdrawn : goal.returns-clause-withdrawn
unfolding put put_at local_of local_of_nobody effect conclusion_of accepted context_of refused_name shard_of shard_of_id opening
returns-clause-withdrawn c = refl

pub returns-clause-during_update : goal.returns-clause-during_update
unfolding put put_at local_of local_of_nobody effect conclusion_of accepted context_of refused_name shard_of shard_of_id opening
returns-clause-during_update c = (refl, refl)
