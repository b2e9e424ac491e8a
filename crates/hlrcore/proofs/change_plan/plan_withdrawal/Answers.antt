use Rattle.std.proofs.Common.{refl}
use Rattle.hlrcore.proofs.PlanLemmas.{withdrawal_plan}
use Rattle.hlrcore.proofs.change_plan.plan_withdrawal.Goals as goal

pub returns : goal.returns
returns c =
    let found = c.record_of-subscriber in
    withdrawal_plan c.args.shard.now _ found.result c.next_or_any-new.result c.new.result c.withdraws-outcome.result c.unnamed.result c.unnamed.ensures
    found.ensures.found found.ensures.own c.next_or_any-new.ensures c.withdraws-outcome.ensures.writable
    c.args.imsi refl c.new.ensures c.withdraws-outcome.ensures.leaves
