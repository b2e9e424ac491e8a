use Rattle.std.proofs.Common.{IfSome, ap, sym, subst, ◌∙◌}
use Rattle.tsl.specs.Transactions.{OpenTransactions, MayBegin, count}
use Rattle.tsl.proofs.ViewLemmas.{count-open_of}
use Rattle.tsl.proofs.StepLemmas.{may_begin_some}
use Rattle.tsl.proofs.transactions.Transactions.next_id.Goals as goal

pub returns-clause-may : goal.returns-clause-may
returns-clause-may c =
    let i = c.self.inside in
    subst (λ (t : OpenTransactions). IfSome c.next_id.result (MayBegin t)) c.self.view_is
    (may_begin_some i.ids i.keys.items i.entries i.room c.self.invariant c.next_id.result c.next_id.ensures.may)

pub returns-clause-none : goal.returns-clause-none
returns-clause-none c =
    let i = c.self.inside in
    let counted = sym (ap count c.self.view_is) ∙ count-open_of i.ids i.keys.items i.entries i.room c.self.invariant in
    (λ none. counted ∙ c.next_id.ensures.none.0 none, λ full. c.next_id.ensures.none.1 (sym counted ∙ full))
