use Rattle.std.proofs.Common.{◌≡◌, ◌≢◌, Some, None, ap, sym, subst, ◌∙◌}
use Rattle.std.specs.Option.{is_some}
use Rattle.tidalloc.specs.LiveIds.{slot_if_live}
use Rattle.tsl.specs.declared.transactions.Entry.{Entry}
use Rattle.tsl.specs.Transactions.{OpenTransactions, at, active, with_transaction}
use Rattle.tsl.proofs.ViewLemmas.{is_live_if_open, slot_when_live, key_is}
use Rattle.tsl.proofs.StepLemmas.{AreEntries-set, sets}
use Rattle.tsl.proofs.transactions.Transactions.set.Goals as goal

pub unwrap-slot-requires : goal.unwrap-slot-requires
unwrap-slot-requires c =
    let i = c.self.inside in
    let live = is_live_if_open i.ids i.keys.items i.entries i.room c.self.invariant c.args.id
    (subst (λ (t : OpenTransactions). at t c.args.id ≢ None) (sym c.self.view_is) c.requires) in
    ap is_some (c.slot.ensures.slot ∙ slot_when_live i.ids c.args.id live)

pub invariant_of-self : goal.invariant_of-self
invariant_of-self c =
    let i = c.self.inside in
    let entry : Entry = record { id = c.args.id; transaction = record { peer = c.args.peer; remote = Some c.args.remote } } in
    let live = is_live_if_open i.ids i.keys.items i.entries i.room c.self.invariant c.args.id
    (subst (λ (t : OpenTransactions). at t c.args.id ≢ None) (sym c.self.view_is) c.requires) in
    let there : Some c.unwrap-slot.result ≡ slot_if_live i.ids c.args.id = sym c.unwrap-slot.ensures ∙ c.slot.ensures.slot in
    let key = key_is i.ids i.keys.items i.entries i.room c.self.invariant c.args.id c.unwrap-slot.result c.index.result.now there
    (rw c.unwrap-slot.ensures at c.slot.ensures.used) c.index.ensures in
    AreEntries-set i.ids i.keys.items i.entries i.room c.index.result.now entry c.index_mut.result.now c.self.invariant live key c.index_mut.ensures.value

pub returns : goal.returns
returns c =
    let i = c.self.inside in
    let entry : Entry = record { id = c.args.id; transaction = record { peer = c.args.peer; remote = Some c.args.remote } } in
    let live = is_live_if_open i.ids i.keys.items i.entries i.room c.self.invariant c.args.id
    (subst (λ (t : OpenTransactions). at t c.args.id ≢ None) (sym c.self.view_is) c.requires) in
    let there : Some c.unwrap-slot.result ≡ slot_if_live i.ids c.args.id = sym c.unwrap-slot.ensures ∙ c.slot.ensures.slot in
    let key = key_is i.ids i.keys.items i.entries i.room c.self.invariant c.args.id c.unwrap-slot.result c.index.result.now there
    (rw c.unwrap-slot.ensures at c.slot.ensures.used) c.index.ensures in
    sets i.ids i.keys.items i.entries i.room c.index.result.now entry c.index_mut.result.now c.self.invariant live key c.index_mut.ensures.value
    ∙ ap (λ (t : OpenTransactions). with_transaction t c.args.id (active c.args.peer c.args.remote)) c.self.view_is
