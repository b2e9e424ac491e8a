use Rattle.std.proofs.Common.{◌≡◌, ◌≢◌, ◌+◌, Some, None, ap, sym, subst, ◌∙◌}
use Rattle.std.specs.Option.{is_some}
use Rattle.tidalloc.specs.LiveIds.{LiveIds, slot_if_live}
use Rattle.tsl.specs.Transactions.{OpenTransactions, at, closed}
use Rattle.tsl.specs.Table.{open_of}
use Rattle.tsl.proofs.ViewLemmas.{is_live_if_open, slot_when_live, key_is, at-entry}
use Rattle.tsl.proofs.StepLemmas.{AreEntries-close, closes}
use Rattle.tsl.proofs.transactions.Transactions.close.Goals as goal

pub unwrap-slot-requires : goal.unwrap-slot-requires
unwrap-slot-requires c =
    let i = c.self.inside in
    let live = is_live_if_open i.ids i.keys.items i.entries i.room c.self.invariant c.args.id
    (subst (λ (t : OpenTransactions). at t c.args.id ≢ None) (sym c.self.view_is) c.requires) in
    ap is_some (c.slot.ensures.slot ∙ slot_when_live i.ids c.args.id live)

pub invariant_of-self : goal.invariant_of-self
invariant_of-self c =
    let i = c.self.inside in
    let live = is_live_if_open i.ids i.keys.items i.entries i.room c.self.invariant c.args.id
    (subst (λ (t : OpenTransactions). at t c.args.id ≢ None) (sym c.self.view_is) c.requires) in
    let there : Some c.unwrap-slot.result ≡ slot_if_live i.ids c.args.id = sym c.unwrap-slot.ensures ∙ c.slot.ensures.slot in
    let key = key_is i.ids i.keys.items i.entries i.room c.self.invariant c.args.id c.unwrap-slot.result c.index.result.now there
    (rw c.unwrap-slot.ensures at c.slot.ensures.used) c.index.ensures in
    rw c.give_back.ensures
    (AreEntries-close i.ids i.keys.items i.entries c.remove-entry.new.self i.room c.index.result.now c.args.id
    c.self.invariant live key c.remove-entry.ensures.updates c.remove-entry.ensures.len c.remove-entry.ensures.capacity)

pub returns-clause-was : goal.returns-clause-was
returns-clause-was c =
    let i = c.self.inside in
    let there : Some c.unwrap-slot.result ≡ slot_if_live i.ids c.args.id = sym c.unwrap-slot.ensures ∙ c.slot.ensures.slot in
    ap (λ (t : OpenTransactions). at t c.args.id) (sym c.self.view_is)
    ∙ at-entry i.ids i.keys.items i.entries i.room c.self.invariant c.args.id c.unwrap-slot.result c.index.result.now there
    (rw c.unwrap-slot.ensures at c.slot.ensures.used) c.index.ensures c.remove-entry.result c.remove-entry.ensures.value

pub returns-clause-closed : goal.returns-clause-closed
returns-clause-closed c =
    let i = c.self.inside in
    let live = is_live_if_open i.ids i.keys.items i.entries i.room c.self.invariant c.args.id
    (subst (λ (t : OpenTransactions). at t c.args.id ≢ None) (sym c.self.view_is) c.requires) in
    let there : Some c.unwrap-slot.result ≡ slot_if_live i.ids c.args.id = sym c.unwrap-slot.ensures ∙ c.slot.ensures.slot in
    let key = key_is i.ids i.keys.items i.entries i.room c.self.invariant c.args.id c.unwrap-slot.result c.index.result.now there
    (rw c.unwrap-slot.ensures at c.slot.ensures.used) c.index.ensures in
    ap (λ (v : LiveIds). open_of v i.keys.items c.remove-entry.new.self (i.room + 1)) c.give_back.ensures
    ∙ closes i.ids i.keys.items i.entries c.remove-entry.new.self i.room c.index.result.now c.args.id
    c.self.invariant live key c.remove-entry.ensures.updates c.remove-entry.ensures.len c.remove-entry.ensures.capacity
    ∙ ap (λ (t : OpenTransactions). closed t c.args.id) c.self.view_is
