use Rattle.std.proofs.Common.{subst, sym}
use Rattle.std.specs.Prelude.{IfErr}
use Rattle.wholenode.specs.Handling.{Refuses}
use Rattle.hlr_program.specs.declared.each.Each.{Each}
use Rattle.hlr_program.specs.Shards.{event_for}
use Rattle.hlr_program.proofs.alone.tick_or_expire.Goals as goal

pub returns-in-Clock-clause-refused : goal.returns-in-Clock-clause-refused
returns-in-Clock-clause-refused c =
    subst (λ (said : Each). IfErr c.tick.result (λ cause. Refuses c.args.node.now (event_for said c.args.shard) cause)) (sym c.in-Clock.is)
    c.tick.ensures.refused

pub returns-in-Expiry-clause-refused : goal.returns-in-Expiry-clause-refused
returns-in-Expiry-clause-refused c =
    subst (λ (said : Each). IfErr c.expire.result (λ cause. Refuses c.args.node.now (event_for said c.args.shard) cause)) (sym c.in-Expiry.is)
    c.expire.ensures.refused
