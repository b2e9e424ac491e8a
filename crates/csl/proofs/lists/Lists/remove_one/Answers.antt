use Rattle.std.proofs.Common.{sym, ap, ◌∙◌, subst, refl, Some, None, []}
use Rattle.std.proofs.lemmas.Int.{to_z-of_z}
use Rattle.machine.specs.Effect.{AreRising}
use Rattle.machine.specs.Expiries.{without}
use Rattle.machine.specs.Turns.{invocation_of}
use Rattle.machine_laws.proofs.Rising.{rising_without}
use Rattle.csl.specs.Tables.{AreStored, lists_of, octets_of, put_list}
use Rattle.csl.proofs.Places.{NoneHas, none_of}
use Rattle.csl.proofs.Standing.{none_stands, stands_at}
use Rattle.csl.proofs.Putting.{emptied, is_written, items_none, items_some, list_got, put_without_none, rising_at, stored_put, through, unwritten, without_at}
use Rattle.csl.proofs.lists.Lists.remove_one.Goals as goal

pub returns-in_default-clause-removed : goal.returns-in_default-clause-removed
returns-in_default-clause-removed c =
    let stored = subst AreStored c.self.view_is c.self.invariant in
    let none = list_got c.key_of-key.result c.self.inside.by_dialogue c.args.self.now c.args.id None c.in_default.ensures.value c.self.view_is c.key_of-key.ensures in
    ap lists_of c.get_mut.follows.holds-at-none ∙ c.self.view_is
    ∙ put_without_none c.args.self.now c.args.id c.args.invoke stored (subst (NoneHas c.args.invoke) none tt)

pub invariant_of-self-in_default-place_of : goal.invariant_of-self-in_default-place_of
invariant_of-self-in_default-place_of c =
    subst AreStored (sym (unwritten c.self.inside.by_dialogue (c.get_mut.follows.lender c.in-Some.list.now) c.key_of-key.result c.in-Some.list.now
    c.in-Some.ensures.value (c.get_mut.follows.holds c.in-Some.list.now))) c.self.invariant

pub returns-in_default-place_of-clause-removed : goal.returns-in_default-place_of-clause-removed
returns-in_default-place_of-clause-removed c =
    let fits = c.ranges.invoke in
    let stored = subst AreStored c.self.view_is c.self.invariant in
    let got = list_got c.key_of-key.result c.self.inside.by_dialogue c.args.self.now c.args.id (Some c.in-Some.list.now) c.in-Some.ensures.value c.self.view_is c.key_of-key.ensures in
    let none = none_of c.args.invoke c.in-Some.list.now.items (sym (simp (c.deref.ensures, to_z-of_z) at c.place_of.ensures)
    ∙ c.in_default-place_of.is) in
    unwritten c.self.inside.by_dialogue (c.get_mut.follows.lender c.in-Some.list.now) c.key_of-key.result c.in-Some.list.now c.in-Some.ensures.value
    (c.get_mut.follows.holds c.in-Some.list.now) ∙ c.self.view_is
    ∙ put_without_none c.args.self.now c.args.id c.args.invoke stored (subst (NoneHas c.args.invoke) got none)

pub returns-in_default-clause-was : goal.returns-in_default-clause-was
returns-in_default-clause-was c =
    ap (invocation_of c.args.invoke) (list_got c.key_of-key.result c.self.inside.by_dialogue c.args.self.now c.args.id None c.in_default.ensures.value c.self.view_is c.key_of-key.ensures)

pub returns-in_default-place_of-clause-was : goal.returns-in_default-place_of-clause-was
returns-in_default-place_of-clause-was c =
    let fits = c.ranges.invoke in
    let got = list_got c.key_of-key.result c.self.inside.by_dialogue c.args.self.now c.args.id (Some c.in-Some.list.now) c.in-Some.ensures.value c.self.view_is c.key_of-key.ensures in
    let none = none_of c.args.invoke c.in-Some.list.now.items (sym (simp (c.deref.ensures, to_z-of_z) at c.place_of.ensures)
    ∙ c.in_default-place_of.is) in
    sym (none_stands c.args.invoke c.in-Some.list.now.items none) ∙ ap (invocation_of c.args.invoke) got

pub invariant_of-self-then-not-is_empty : goal.invariant_of-self-then-not-is_empty
invariant_of-self-then-not-is_empty c =
    let fits = c.ranges.invoke in
    let less = without_at c.args.invoke c.in-Some.list.now.items c.in-Some-place_of.place
    (sym (simp (c.deref.ensures, to_z-of_z) at c.place_of.ensures) ∙ c.in-Some-place_of.is) in
    let some = items_some c.remove-own.new.self.items (sym c.is_empty.ensures ∙ c.if-not-is_empty.true) in
    let rising = subst AreRising (sym (c.remove-own.ensures.items ∙ less))
    (rising_without c.args.invoke c.in-Some.list.now.items
    (subst AreRising (sym (list_got c.key_of-key.result c.self.inside.by_dialogue (lists_of c.self.inside.by_dialogue) (octets_of c.key_of-key.result)
    (Some c.in-Some.list.now) c.in-Some.ensures.value refl refl)) (rising_at (lists_of c.self.inside.by_dialogue) (octets_of c.key_of-key.result) c.self.invariant))) in
    subst AreStored (sym (is_written c.self.inside.by_dialogue (c.get_mut.follows.lender c.remove-own.new.self) c.key_of-key.result
    (Some c.remove-own.new.self) c.remove-own.new.self.items (through c.self.inside.by_dialogue
    (c.get_mut.follows.lender c.remove-own.new.self) c.key_of-key.result c.in-Some.list.now c.remove-own.new.self c.in-Some.ensures.value
    (c.get_mut.follows.holds c.remove-own.new.self)) some))
    (stored_put _ (octets_of c.key_of-key.result) c.remove-own.new.self.items c.self.invariant rising)

pub returns-then-not-is_empty-clause-removed : goal.returns-then-not-is_empty-clause-removed
returns-then-not-is_empty-clause-removed c =
    let fits = c.ranges.invoke in
    let got = list_got c.key_of-key.result c.self.inside.by_dialogue c.args.self.now c.args.id (Some c.in-Some.list.now) c.in-Some.ensures.value c.self.view_is c.key_of-key.ensures in
    let less = without_at c.args.invoke c.in-Some.list.now.items c.in-Some-place_of.place
    (sym (simp (c.deref.ensures, to_z-of_z) at c.place_of.ensures) ∙ c.in-Some-place_of.is) in
    let some = items_some c.remove-own.new.self.items (sym c.is_empty.ensures ∙ c.if-not-is_empty.true) in
    is_written c.self.inside.by_dialogue (c.get_mut.follows.lender c.remove-own.new.self) c.key_of-key.result (Some c.remove-own.new.self) c.remove-own.new.self.items
    (through c.self.inside.by_dialogue
    (c.get_mut.follows.lender c.remove-own.new.self) c.key_of-key.result c.in-Some.list.now c.remove-own.new.self c.in-Some.ensures.value
    (c.get_mut.follows.holds c.remove-own.new.self)) some
    ∙ (λ i. put_list (c.self.view_is i) (c.key_of-key.ensures i) c.remove-own.new.self.items)
    ∙ ap (put_list c.args.self.now c.args.id) (c.remove-own.ensures.items ∙ less ∙ ap (without c.args.invoke) got)

pub returns-then-not-is_empty-clause-was : goal.returns-then-not-is_empty-clause-was
returns-then-not-is_empty-clause-was c =
    let fits = c.ranges.invoke in
    let got = list_got c.key_of-key.result c.self.inside.by_dialogue c.args.self.now c.args.id (Some c.in-Some.list.now) c.in-Some.ensures.value c.self.view_is c.key_of-key.ensures in
    sym (stands_at c.args.invoke c.in-Some.list.now.items c.in-Some-place_of.place c.remove-own.result
    (sym (simp (c.deref.ensures, to_z-of_z) at c.place_of.ensures) ∙ c.in-Some-place_of.is) c.remove-own.ensures.value)
    ∙ ap (invocation_of c.args.invoke) got

pub invariant_of-self-2 : goal.invariant_of-self-2
invariant_of-self-2 c =
    subst AreStored (sym
    (emptied c.self.inside.by_dialogue
    (c.get_mut.follows.lender c.remove-own.new.self) c.remove.new.self c.key_of-key.result c.in-Some.list.now c.remove-own.new.self c.in-Some.ensures.value
    (c.get_mut.follows.holds c.remove-own.new.self) c.remove.ensures.updates.0))
    (stored_put _ (octets_of c.key_of-key.result) [] c.self.invariant tt)

pub returns-clause-removed : goal.returns-clause-removed
returns-clause-removed c =
    let fits = c.ranges.invoke in
    let got = list_got c.key_of-key.result c.self.inside.by_dialogue c.args.self.now c.args.id (Some c.in-Some.list.now) c.in-Some.ensures.value c.self.view_is c.key_of-key.ensures in
    let less = without_at c.args.invoke c.in-Some.list.now.items c.in-Some-place_of.place
    (sym (simp (c.deref.ensures, to_z-of_z) at c.place_of.ensures) ∙ c.in-Some-place_of.is) in
    let none = items_none c.remove-own.new.self.items (sym c.is_empty.ensures ∙ c.if-not-is_empty.false) in
    emptied c.self.inside.by_dialogue
    (c.get_mut.follows.lender c.remove-own.new.self) c.remove.new.self c.key_of-key.result c.in-Some.list.now c.remove-own.new.self c.in-Some.ensures.value
    (c.get_mut.follows.holds c.remove-own.new.self) c.remove.ensures.updates.0
    ∙ (λ i. put_list (c.self.view_is i) (c.key_of-key.ensures i) [])
    ∙ ap (put_list c.args.self.now c.args.id) (sym none ∙ c.remove-own.ensures.items ∙ less ∙ ap (without c.args.invoke) got)

pub returns-clause-was : goal.returns-clause-was
returns-clause-was c =
    let fits = c.ranges.invoke in
    let got = list_got c.key_of-key.result c.self.inside.by_dialogue c.args.self.now c.args.id (Some c.in-Some.list.now) c.in-Some.ensures.value c.self.view_is c.key_of-key.ensures in
    sym (stands_at c.args.invoke c.in-Some.list.now.items c.in-Some-place_of.place c.remove-own.result
    (sym (simp (c.deref.ensures, to_z-of_z) at c.place_of.ensures) ∙ c.in-Some-place_of.is) c.remove-own.ensures.value)
    ∙ ap (invocation_of c.args.invoke) got

pub returns-in_default-clause-rising : goal.returns-in_default-clause-rising
returns-in_default-clause-rising c = rising_at c.args.self.now c.args.id (subst AreStored c.self.view_is c.self.invariant)

pub returns-in_default-place_of-clause-rising : goal.returns-in_default-place_of-clause-rising
returns-in_default-place_of-clause-rising c = rising_at c.args.self.now c.args.id (subst AreStored c.self.view_is c.self.invariant)

pub returns-then-not-is_empty-clause-rising : goal.returns-then-not-is_empty-clause-rising
returns-then-not-is_empty-clause-rising c = rising_at c.args.self.now c.args.id (subst AreStored c.self.view_is c.self.invariant)

pub returns-clause-rising : goal.returns-clause-rising
returns-clause-rising c = rising_at c.args.self.now c.args.id (subst AreStored c.self.view_is c.self.invariant)
