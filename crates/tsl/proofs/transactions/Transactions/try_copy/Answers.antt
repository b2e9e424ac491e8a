use Rattle.std.proofs.Common.{ap, ◌∙◌}
use Rattle.slab.specs.Slab.{Slab}
use Rattle.tsl.specs.declared.transactions.Entry.{Entry}
use Rattle.tsl.proofs.ViewLemmas.{slots_same, open_of-slots, AreEntries-slots}
use Rattle.tsl.proofs.transactions.Transactions.try_copy.Goals as goal

pub invariant_of-result : goal.invariant_of-result
invariant_of-result c =
    let i = c.self.inside in
    let slots = ap (λ (s : Slab Entry). s.slots) c.in_ok-reserve.ensures.rest_kept
    ∙ slots_same _ (λ x y h. h) i.entries.slots c.in_ok-entries.entries.slots c.in_ok-entries.ensures.cases.slots in
    rw (c.in_ok-try_copy.ensures, c.in_ok-from_slice.ensures.items, c.deref.ensures.value)
    (AreEntries-slots i.ids i.keys.items i.entries c.reserve.new.self i.room slots c.in_ok-reserve.ensures.room c.self.invariant)

pub returns : goal.returns
returns c =
    let i = c.self.inside in
    let slots = ap (λ (s : Slab Entry). s.slots) c.in_ok-reserve.ensures.rest_kept
    ∙ slots_same _ (λ x y h. h) i.entries.slots c.in_ok-entries.entries.slots c.in_ok-entries.ensures.cases.slots in
    rw (c.in_ok-try_copy.ensures, c.in_ok-from_slice.ensures.items, c.deref.ensures.value)
    (open_of-slots i.ids i.keys.items i.entries c.reserve.new.self i.room slots ∙ c.self.view_is)
