use Rattle.std.proofs.Common.{refl}
use Rattle.machine.specs.Keys.{put, put_at, shard_of, shard_of_id}
use Rattle.machine.specs.State.{local_of, local_of_nobody}
use Rattle.machine.specs.Effect.{effect, conclusion_of}
use Rattle.machine.specs.Contexts.{accepted, context_of, refused_name}
use Rattle.machine.specs.Opening.{opening}
use Rattle.machine_laws.proofs.examples.withdrawn_when_purged.Goals as goal

pub returns : goal.returns
unfolding put put_at local_of local_of_nobody effect conclusion_of accepted context_of refused_name shard_of shard_of_id opening
returns c = refl
