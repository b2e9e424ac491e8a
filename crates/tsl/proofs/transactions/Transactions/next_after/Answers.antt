use Rattle.std.proofs.Common.{◌≢◌, None, ap, sym, subst, ◌∙◌}
use Rattle.tsl.specs.Transactions.{OpenTransactions, MayBegin, at, closed, next_of}
use Rattle.tsl.proofs.ViewLemmas.{is_live_if_open}
use Rattle.tsl.proofs.StepLemmas.{may_begin_after}
use Rattle.tsl.proofs.transactions.Transactions.next_after.Goals as goal

pub next_after-requires : goal.next_after-requires
next_after-requires c =
    let i = c.self.inside in
    is_live_if_open i.ids i.keys.items i.entries i.room c.self.invariant c.args.id (subst (λ (t : OpenTransactions). at t c.args.id ≢ None)
    (sym c.self.view_is) c.requires)

pub returns-clause-may : goal.returns-clause-may
returns-clause-may c =
    let i = c.self.inside in
    subst (λ (t : OpenTransactions). MayBegin (closed t c.args.id) c.next_after.result) c.self.view_is
    (may_begin_after i.ids i.keys.items i.entries i.room c.self.invariant c.args.id c.next_after.result c.next_after.ensures.may)

pub returns-clause-next : goal.returns-clause-next
returns-clause-next c =
    ap (λ (t : OpenTransactions). next_of (closed t c.args.id)) (sym c.self.view_is) ∙ c.next_after.ensures.next
