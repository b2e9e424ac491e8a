use Rattle.std.proofs.Common.{ℕ, pos, List, [], ◌∷◌, Some, arith, refl}
use Rattle.machine.specs.Keys.{put, put_at, shard_of, shard_of_id}
use Rattle.machine.specs.State.{Dialogue, Invocation, OperationSent, Updates, local_of, local_of_nobody}
use Rattle.machine.specs.Effect.{effect, conclusion_of}
use Rattle.machine.specs.Contexts.{accepted, context_of, refused_name}
use Rattle.machine.specs.Opening.{opening}
use Rattle.machine.specs.Turns.{OneDue}
use Rattle.machine_laws.specs.Worked.{at_b, fifth_imsi, first_imsi, id_a, id_b, theirs, vlr_b}
use Rattle.machine_laws.proofs.Timing.{least_taken, of_both}
use Rattle.machine_laws.proofs.dialogue_examples.earlier_of_two_timers.Goals as goal

abbrev timer : ℕ → Invocation
timer deadline = record { id = pos 1; was = OperationSent; deadline = deadline }

abbrev update : List ℕ → ℕ → Dialogue
update imsi deadline = record {
  subscriber = imsi;
  transaction = record { peer = vlr_b; remote = Some theirs };
  invocations = timer deadline ∷ [];
  kind = Updates at_b (pos 1);
}

pub returns : goal.returns
unfolding put put_at local_of local_of_nobody effect conclusion_of accepted context_of refused_name shard_of shard_of_id opening
returns c = (
  OneDue id_b (update first_imsi 20) (pos 1) (timer 20) (record { of_shard = refl; is_open = refl; stands = refl; due = omega arith })
      (of_both _ _ id_b id_a (update first_imsi 20) (update fifth_imsi 30) (timer 20) (timer 30) _ refl refl refl refl refl) refl,
  λ other. cc (least_taken _ _ id_a (update fifth_imsi 30) (pos 1) (timer 30) OperationSent refl other id_b (update first_imsi 20) (pos 1) (timer 20)
      (record { of_shard = refl; is_open = refl; stands = refl; due = omega arith })),
)
