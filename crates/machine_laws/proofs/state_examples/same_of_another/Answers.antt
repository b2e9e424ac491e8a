use Rattle.std.proofs.Common.{ap, refl, sym}
use Rattle.std.proofs.lemmas.Bool.{both_ways}
use Rattle.machine.specs.Keys.{put, put_at, shard_of, shard_of_id}
use Rattle.machine.specs.State.{Subscriber, local_of, local_of_nobody}
use Rattle.machine.specs.Effect.{effect, conclusion_of}
use Rattle.machine.specs.Contexts.{accepted, context_of, refused_name}
use Rattle.machine.specs.Opening.{opening}
use Rattle.machine.specs.Changes.{data_to}
use Rattle.machine_laws.specs.Worked.{at_a, fifth_imsi, first_imsi, first_record, id_a, start}
use Rattle.machine_laws.proofs.Keys.{some_inj}
use Rattle.machine_laws.proofs.Unseen.{unseen}
use Rattle.machine_laws.proofs.state_examples.same_of_another.Goals as goal

pub returns-clause-record_of : goal.returns-clause-record_of
unfolding put put_at local_of local_of_nobody effect conclusion_of accepted context_of refused_name shard_of shard_of_id opening
returns-clause-record_of c = (
  record { record_of = refl; dialogues = λ i. refl },
  λ is. both_ways _ refl (ap (λ (s : Subscriber). s.purged) (some_inj _ _ _ refl (sym is.record_of))),
)

pub returns-clause-dialogue : goal.returns-clause-dialogue
unfolding put put_at local_of local_of_nobody effect conclusion_of accepted context_of refused_name shard_of shard_of_id opening
returns-clause-dialogue c = (
  record { record_of = refl; dialogues = unseen fifth_imsi id_a (data_to (local_of start 1 first_imsi) at_a first_record.codes) refl },
  λ is. cc (is.dialogues id_a),
)
