use Rattle.std.proofs.Common.{ap, sym, ◌∙◌}
use Rattle.std.specs.FinMap as map
use Rattle.tsl.specs.Transactions.{OpenTransactions, count}
use Rattle.tsl.proofs.KeyLemmas.{keys-ascending}
use Rattle.tsl.proofs.ViewLemmas.{count-open_of}
use Rattle.tsl.proofs.transactions.Transactions.ids.Goals as goal

pub returns-clause-live : goal.returns-clause-live
returns-clause-live c =
    let i = c.self.inside in
    sym (keys-ascending i.ids i.keys.items i.entries i.room c.self.invariant) ∙ ap (λ (t : OpenTransactions). map.keys t.open_ones) c.self.view_is

pub returns-clause-count : goal.returns-clause-count
returns-clause-count c =
    let i = c.self.inside in
    sym (count-open_of i.ids i.keys.items i.entries i.room c.self.invariant) ∙ ap count c.self.view_is
