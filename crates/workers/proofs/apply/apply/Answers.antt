use Rattle.std.proofs.Common.{rules}
use Rattle.workers.proofs.GoingLemmas.{answered_on}
use Rattle.workers.proofs.apply.apply.Goals as goal

pub returns-clause-answered : goal.returns-clause-answered
returns-clause-answered c =
    record { old = c.args.shard.now; new = c.handle.new.self; subject = c.in_ok-handled.handled.subject; handles = c.in_ok-handled.ensures.handles }

pub returns-clause-ok : goal.returns-clause-ok
returns-clause-ok c = record { shard = search rules; subject = c.in_ok-handled.handled.subject; handles = c.in_ok-handled.ensures.handles }

pub returns-clause-gone_on : goal.returns-clause-gone_on
returns-clause-gone_on c = answered_on c.args.shard.now c.handle.new.self _ c.handle.result c.handle.ensures.handles c.handle.ensures.err
