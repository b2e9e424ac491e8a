use Rattle.std.proofs.Common.{sym, subst}
use Rattle.std.specs.Prelude.{IfErr}
use Rattle.hlrcore.specs.declared.event.RawEvent as code
use Rattle.hlrcore.specs.Events.{raw_event}
use Rattle.wholenode.specs.Handling.{Refuses}
use Rattle.wholenode.proofs.node.Node.take.Goals as goal

pub returns-in-Clock-clause-refused : goal.returns-in-Clock-clause-refused
returns-in-Clock-clause-refused c =
    subst (λ (raw : code.RawEvent). IfErr c.tick.result (λ cause. Refuses c.args.self.now (raw_event raw) cause)) (sym c.in-Clock.is)
    c.tick.ensures.refused

pub returns-in-Expire-clause-refused : goal.returns-in-Expire-clause-refused
returns-in-Expire-clause-refused c =
    subst (λ (raw : code.RawEvent). IfErr c.expire.result (λ cause. Refuses c.args.self.now (raw_event raw) cause)) (sym c.in-Expire.is)
    c.expire.ensures.refused
