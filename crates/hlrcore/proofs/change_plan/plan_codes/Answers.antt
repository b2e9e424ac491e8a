use Rattle.std.proofs.Common.{refl}
use Rattle.machine.specs.Events.{Codes}
use Rattle.hlrcore.proofs.PlanLemmas.{change_plan}
use Rattle.hlrcore.proofs.change_plan.plan_codes.Goals as goal

pub returns : goal.returns
returns c =
    let found = c.record_of-subscriber in
    change_plan c.args.shard.now _ found.result c.next_or_any-new.result c.args.codes c.new_codes-outcome.result c.unnamed.result c.unnamed.ensures
    found.ensures.found found.ensures.own c.next_or_any-new.ensures c.new_codes-outcome.ensures.writable
    c.args.imsi c.args.codes (Codes c.args.codes) refl refl c.requires c.new_codes-outcome.ensures.leaves
