use Rattle.std.proofs.Common.{refl}
use Rattle.machine.specs.Keys.{put, put_at, shard_of, shard_of_id}
use Rattle.machine.specs.State.{local_of, local_of_nobody}
use Rattle.machine.specs.Effect.{effect, conclusion_of}
use Rattle.machine.specs.Contexts.{accepted, context_of, refused_name}
use Rattle.machine.specs.Opening.{opening}
use Rattle.machine.specs.Holders.{holders}
use Rattle.machine_laws.proofs.update_examples.holders_of_journals.Goals as goal

pub returns-clause-again : goal.returns-clause-again
unfolding put put_at local_of local_of_nobody effect conclusion_of accepted context_of refused_name shard_of shard_of_id opening holders
returns-clause-again c = (refl, refl, refl, refl, refl)

pub returns-clause-purged : goal.returns-clause-purged
unfolding put put_at local_of local_of_nobody effect conclusion_of accepted context_of refused_name shard_of shard_of_id opening holders
returns-clause-purged c = (refl, refl, refl)

pub returns-clause-in_order : goal.returns-clause-in_order
returns-clause-in_order c = (refl, refl, refl)
