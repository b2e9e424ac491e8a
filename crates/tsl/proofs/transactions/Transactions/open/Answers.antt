use Rattle.std.proofs.Common.{◌≡◌, ◌-◌, Some, ap, sym, subst, ◌∙◌, arith}
use Rattle.std.specs.Option.{is_some}
use Rattle.std.proofs.Math.ListN.{set}
use Rattle.tidalloc.specs.LiveIds.{slot_if_live}
use Rattle.tsl.specs.declared.transactions.Entry.{Entry}
use Rattle.tsl.specs.Transactions.{OpenTransactions, Begins, known_as}
use Rattle.tsl.specs.Table.{open_of}
use Rattle.tsl.proofs.ViewLemmas.{slot_when_live}
use Rattle.tsl.proofs.StepLemmas.{AreEntries-begin, begins, live_taken, used_then}
use Rattle.tsl.proofs.transactions.Transactions.open.Goals as goal

pub unwrap-slot-requires : goal.unwrap-slot-requires
unwrap-slot-requires c =
    let id = c.take_one-id.result in
    ap is_some (c.slot.ensures.slot ∙ slot_when_live c.take_one-id.new.self id
    (live_taken c.self.inside.ids c.take_one-id.new.self id c.take_one-id.ensures))

pub index_mut-requires : goal.index_mut-requires
index_mut-requires c =
    let i = c.self.inside in
    let used = used_then i.ids c.take_one-id.new.self i.keys.items i.entries i.room c.take_one-id.result c.self.invariant c.take_one-id.ensures
    (rw (sym c.self.view_is) at c.requires) in
    omega (arith, used, rw c.unwrap-slot.ensures at c.slot.ensures.used, i.keys.ok.0)

pub invariant_of-self : goal.invariant_of-self
invariant_of-self c =
    let i = c.self.inside in
    let entry : Entry = record { id = c.take_one-id.result; transaction = record { peer = c.args.peer; remote = c.args.remote } } in
    let there : Some c.unwrap-slot.result ≡ slot_if_live c.take_one-id.new.self entry.id = sym c.unwrap-slot.ensures ∙ c.slot.ensures.slot in
    AreEntries-begin i.ids c.take_one-id.new.self i.keys.items i.entries
    c.insert_reserved.new.self i.room c.unwrap-slot.result c.insert_reserved.result entry
    c.self.invariant c.take_one-id.ensures c.slot.ensures.own there
    (rw c.unwrap-slot.ensures at c.slot.ensures.used)
    c.insert_reserved.ensures.was_vacant c.insert_reserved.ensures.updates c.insert_reserved.ensures.len c.insert_reserved.ensures.capacity
    (rw (sym c.self.view_is) at c.requires)

pub returns-clause-begun : goal.returns-clause-begun
returns-clause-begun c =
    let i = c.self.inside in
    let entry : Entry = record { id = c.take_one-id.result; transaction = record { peer = c.args.peer; remote = c.args.remote } } in
    let there : Some c.unwrap-slot.result ≡ slot_if_live c.take_one-id.new.self entry.id = sym c.unwrap-slot.ensures ∙ c.slot.ensures.slot in
    subst (λ (t : OpenTransactions). Begins t entry.id (known_as c.args.peer c.args.remote)
    (open_of c.take_one-id.new.self (set i.keys.items c.unwrap-slot.result c.insert_reserved.result) c.insert_reserved.new.self
    (i.room - 1))) c.self.view_is
    (begins i.ids c.take_one-id.new.self i.keys.items i.entries c.insert_reserved.new.self i.room c.unwrap-slot.result c.insert_reserved.result entry
    c.self.invariant c.take_one-id.ensures c.slot.ensures.own there
    (rw c.unwrap-slot.ensures at c.slot.ensures.used)
    c.insert_reserved.ensures.was_vacant c.insert_reserved.ensures.updates c.insert_reserved.ensures.len c.insert_reserved.ensures.capacity
    (rw (sym c.self.view_is) at c.requires))
