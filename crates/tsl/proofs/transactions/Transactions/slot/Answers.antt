use Rattle.std.proofs.Common.{◌≢◌, Some, None, cond, ap, sym, subst, ◌∙◌}
use Rattle.std.specs.Option.{is_some}
use Rattle.tidalloc.specs.LiveIds.{slot_of}
use Rattle.tsl.specs.Transactions.{OpenTransactions, at}
use Rattle.tsl.proofs.ViewLemmas.{is_live_if_open, is_some-at}
use Rattle.tsl.proofs.transactions.Transactions.slot.Goals as goal

pub returns-clause-slot : goal.returns-clause-slot
returns-clause-slot c =
    let i = c.self.inside in
    c.slot.ensures.slot
    ∙ ap (λ b. cond b (Some (slot_of c.args.id)) None) (sym (is_some-at i.ids i.keys.items i.entries i.room c.self.invariant c.args.id))
    ∙ ap (λ (t : OpenTransactions). cond (is_some (at t c.args.id)) (Some (slot_of c.args.id)) None) c.self.view_is

pub returns-clause-own : goal.returns-clause-own
returns-clause-own c = λ p q open_p open_q.
    let i = c.self.inside in
    let live_p = is_live_if_open i.ids i.keys.items i.entries i.room c.self.invariant p
    (subst (λ (t : OpenTransactions). at t p ≢ None) (sym c.self.view_is) open_p) in
    let live_q = is_live_if_open i.ids i.keys.items i.entries i.room c.self.invariant q
    (subst (λ (t : OpenTransactions). at t q ≢ None) (sym c.self.view_is) open_q) in
    c.slot.ensures.own p q live_p live_q
