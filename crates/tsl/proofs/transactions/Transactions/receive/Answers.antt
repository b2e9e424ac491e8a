use Rattle.std.proofs.Common.{ap, sym, ◌∙◌}
use Rattle.tsl.specs.Received.{after}
use Rattle.tsl.proofs.RowLemmas.{after_continue}
use Rattle.tsl.proofs.transactions.Transactions.receive.Goals as goal

pub returns-in-Continue-clause-after : goal.returns-in-Continue-clause-after
returns-in-Continue-clause-after c =
    c.receive_continue.ensures.after
    ∙ after_continue c.args.self.now c.args.from c.in-Continue.origin c.in-Continue.destination
    ∙ ap (after c.args.self.now c.args.from) (sym c.in-Continue.is)
