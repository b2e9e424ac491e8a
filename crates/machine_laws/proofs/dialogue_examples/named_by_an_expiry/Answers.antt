use Rattle.std.proofs.Common.{◌≡◌, false, is_gt, subst, sym, ℕ, pos, List, [], ◌∷◌, Some, arith, refl}
use Rattle.machine.specs.Keys.{put, put_at, shard_of, shard_of_id}
use Rattle.machine.specs.State.{Dialogue, Invocation, OperationSent, Updates, local_of, local_of_nobody}
use Rattle.machine.specs.Effect.{effect, conclusion_of}
use Rattle.machine.specs.Contexts.{accepted, context_of, refused_name}
use Rattle.machine.specs.Opening.{opening}
use Rattle.machine_laws.specs.Worked.{at_b, fifth_imsi, first_imsi, id_a, id_b, theirs, vlr_b}
use Rattle.machine.specs.Turns.{triple_cmp}
use Rattle.machine_laws.proofs.Keys.{some_inj}
use Rattle.machine_laws.proofs.Timing.{of_both, only_one}
use Rattle.machine_laws.proofs.dialogue_examples.named_by_an_expiry.Goals as goal

abbrev timer : ℕ → Invocation
timer deadline = record { id = pos 1; was = OperationSent; deadline = deadline }

abbrev update : List ℕ → ℕ → Dialogue
update imsi deadline = record {
  subscriber = imsi;
  transaction = record { peer = vlr_b; remote = Some theirs };
  invocations = timer deadline ∷ [];
  kind = Updates at_b (pos 1);
}

pub returns : goal.returns
unfolding put put_at local_of local_of_nobody effect conclusion_of accepted context_of refused_name shard_of shard_of_id opening
returns c = (
  (
    update first_imsi 20,
    pos 1,
    timer 20,
    record { of_shard = refl; is_open = refl; stands = refl; due = omega arith },
    of_both _ _ id_b id_a (update first_imsi 20) (update fifth_imsi 30) (timer 20) (timer 30) _ refl refl refl refl refl,
  ),
  λ (d, j, v, late, least).
      let same = only_one (update fifth_imsi 30) d (timer 30) v j (some_inj _ _ _ refl late.is_open) refl late.stands in
      let before = least id_b (update first_imsi 20) (pos 1) (timer 20)
      (record { of_shard = refl; is_open = refl; stands = refl; due = omega arith }) in
      cc (subst (λ (u : Invocation). is_gt (triple_cmp u.deadline id_a j 20 id_b (pos 1)) ≡ false) (sym same.0) before),
)
