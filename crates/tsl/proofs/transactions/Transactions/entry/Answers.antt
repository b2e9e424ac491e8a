use Rattle.std.proofs.Common.{ap, sym, ◌∙◌}
use Rattle.std.specs.Option.{option_map}
use Rattle.tsl.specs.Transactions.{OpenTransactions, at}
use Rattle.tsl.proofs.ViewLemmas.{transaction_in, not_live_when_no_slot, not_open_if_not_live, at-entry, id-entry}
use Rattle.tsl.proofs.transactions.Transactions.entry.Goals as goal

pub returns-in_err-slot-clause-value : goal.returns-in_err-slot-clause-value
returns-in_err-slot-clause-value c =
    let i = c.self.inside in
    ap (option_map transaction_in) c.from_residual.ensures
    ∙ sym (ap (λ (t : OpenTransactions). at t c.args.id) (sym c.self.view_is)
    ∙ not_open_if_not_live i.ids i.keys.items i.entries i.room c.self.invariant c.args.id (not_live_when_no_slot i.ids c.args.id c.in_err-slot.ensures.slot))

pub returns-clause-value : goal.returns-clause-value
returns-clause-value c =
    let i = c.self.inside in
    sym (ap (λ (t : OpenTransactions). at t c.args.id) (sym c.self.view_is)
    ∙ at-entry i.ids i.keys.items i.entries i.room c.self.invariant c.args.id c.in_ok-slot.slot c.index.result.now
    c.in_ok-slot.ensures.slot c.in_ok-slot.ensures.used c.index.ensures c.index-2.result.now c.index-2.ensures)

pub returns-clause-id : goal.returns-clause-id
returns-clause-id c =
    let i = c.self.inside in
    id-entry i.ids i.keys.items i.entries i.room c.self.invariant c.args.id c.in_ok-slot.slot c.index.result.now
    c.in_ok-slot.ensures.slot c.in_ok-slot.ensures.used c.index.ensures c.index-2.result.now c.index-2.ensures
