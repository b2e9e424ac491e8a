use Rattle.std.proofs.Common.{◌≡◌, arith}
use Rattle.machine_laws.proofs.timers_are_due_at_their_deadline.Goals as goal

pub returns : goal.returns
returns c = λ S n i d j v of_shard is_open stands now. record {
  of_shard = of_shard;
  is_open = is_open;
  stands = stands;
  due = let e : v.deadline ≡ S.clocks n = now in omega arith;
}
