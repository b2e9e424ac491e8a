use Rattle.std.proofs.Common.{sym, subst}
use Rattle.hlrcore.specs.Events.{raw_event}
use Rattle.wholenode.specs.declared.fault.Cause.{Cause}
use Rattle.wholenode.specs.Handling.{Refuses}
use Rattle.wholenode.proofs.ReadLemmas.{unread_refuses}
use Rattle.wholenode.proofs.WholeLemmas.{keeps_seen}
use Rattle.wholenode.proofs.node.Node.read_and_handle.Goals as goal

pub returns-in-Ok-clause-refused : goal.returns-in-Ok-clause-refused
returns-in-Ok-clause-refused c =
    let same = rw c.in-Ok.is at c.of_owned-read.ensures.same in
    rw same at c.handle.ensures.refused

pub returns-clause-refused : goal.returns-clause-refused
returns-clause-refused c =
    let refused = rw c.in-Err.is at c.of_owned-read.ensures.refused in
    subst (λ (cause : Cause). Refuses c.args.self.now (raw_event c.args.raw) cause) (sym c.unread.ensures)
    (unread_refuses c.args.self.now _ (raw_event c.args.raw) refused)

pub returns-clause-keeps : goal.returns-clause-keeps
returns-clause-keeps c = keeps_seen _ _ _ c.self.view_is c.self.invariant
