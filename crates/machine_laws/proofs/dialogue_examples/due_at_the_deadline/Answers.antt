use Rattle.std.proofs.Common.{◌≡◌, ap, sym, ℕ, pos, List, [], ◌∷◌, Some, arith, refl}
use Rattle.machine.specs.Keys.{put, put_at, shard_of, shard_of_id}
use Rattle.machine.specs.State.{Dialogue, Invocation, OperationSent, Updates, local_of, local_of_nobody}
use Rattle.machine.specs.Effect.{effect, conclusion_of}
use Rattle.machine.specs.Contexts.{accepted, context_of, refused_name}
use Rattle.machine.specs.Opening.{opening}
use Rattle.machine_laws.specs.Worked.{at_b, fifth_imsi, first_imsi, id_a, id_b, theirs, vlr_b}
use Rattle.machine_laws.proofs.Keys.{some_inj}
use Rattle.machine_laws.proofs.Timing.{only_one}
use Rattle.machine_laws.proofs.dialogue_examples.due_at_the_deadline.Goals as goal

abbrev timer : ℕ → Invocation
timer deadline = record { id = pos 1; was = OperationSent; deadline = deadline }

abbrev update : List ℕ → ℕ → Dialogue
update imsi deadline = record {
  subscriber = imsi;
  transaction = record { peer = vlr_b; remote = Some theirs };
  invocations = timer deadline ∷ [];
  kind = Updates at_b (pos 1);
}

pub returns : goal.returns
unfolding put put_at local_of local_of_nobody effect conclusion_of accepted context_of refused_name shard_of shard_of_id opening
returns c = (
  (update first_imsi 20, timer 20, record { of_shard = refl; is_open = refl; stands = refl; due = omega arith }),
  λ d v early.
      let same = only_one (update first_imsi 20) d (timer 20) v (pos 1) (some_inj _ _ _ refl early.is_open) refl early.stands in
      let deadline : v.deadline ≡ 20 = ap (λ (u : Invocation). u.deadline) (sym same.0) in let due = early.due in omega arith,
)
