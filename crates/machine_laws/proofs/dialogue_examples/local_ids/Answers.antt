use Rattle.std.proofs.Common.{refl, arith}
use Rattle.machine.specs.Keys.{shard_of_id}
use Rattle.machine_laws.proofs.dialogue_examples.local_ids.Goals as goal

pub returns-clause-last_zero : goal.returns-clause-last_zero
unfolding shard_of_id
returns-clause-last_zero c = record {
  four = refl;
  octets = (omega arith, (omega arith, (omega arith, (omega arith, tt))));
  shard = refl;
  not_zero = λ
      (p, q, r). cc q;
}

pub returns-clause-first_ones_zero : goal.returns-clause-first_ones_zero
unfolding shard_of_id
returns-clause-first_ones_zero c = record {
  four = refl;
  octets = (omega arith, (omega arith, (omega arith, (omega arith, tt))));
  shard = refl;
  not_zero = λ
      (p, q, r). cc r;
}

pub returns-clause-all_zero : goal.returns-clause-all_zero
returns-clause-all_zero c = λ id. id.not_zero (refl, refl, refl)

pub returns-clause-of_another : goal.returns-clause-of_another
unfolding shard_of_id
returns-clause-of_another c = λ id. let s = id.shard in omega arith
