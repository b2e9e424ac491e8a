use Rattle.std.proofs.Common.{sym, ap, ◌∙◌, subst, refl, map, None, Some, []}
use Rattle.csl.specs.Tables.{AreStored, items_of, put_list, lists_of, octets_of}
use Rattle.std.specs.FinMap as finite
use Rattle.csl.proofs.Putting.{is_written, items_none, items_some, stored_put, was_not_there, was_removed}
use Rattle.csl.proofs.lists.Lists.put.Goals as goal
use Rattle.csl.proofs.lists.Lists.put.Goals.{in-Ok, in-Err}

pub invariant_of-self : goal.invariant_of-self
invariant_of-self c =
    subst AreStored (sym (is_written c.self.inside.by_dialogue c.remove.new.self c.key_of-key.result None [] c.remove.ensures.updates.0 refl))
    (stored_put _ (octets_of c.key_of-key.result) [] c.self.invariant tt)

pub returns-then-is_empty-clause-ok : goal.returns-then-is_empty-clause-ok
returns-then-is_empty-clause-ok c =
    is_written c.self.inside.by_dialogue c.remove.new.self c.key_of-key.result None [] c.remove.ensures.updates.0 refl
    ∙ ap (put_list (lists_of c.self.inside.by_dialogue) (octets_of c.key_of-key.result))
    (sym (items_none c.args.list.items (sym c.is_empty.ensures ∙ c.if-is_empty.true)))
    ∙ λ i. put_list (c.self.view_is i) (c.key_of-key.ensures i) c.args.list.items

pub returns-then-is_empty-clause-were : goal.returns-then-is_empty-clause-were
returns-then-is_empty-clause-were c =
    was_removed c.key_of-key.result c.self.inside.by_dialogue c.args.self.now c.args.id c.remove.result c.remove.ensures.value c.self.view_is c.key_of-key.ensures

pub returns-then-is_empty-clause-first : goal.returns-then-is_empty-clause-first
returns-then-is_empty-clause-first c =
    was_not_there c.key_of-key.result c.self.inside.by_dialogue c.args.self.now c.args.id c.remove.result c.remove.ensures.value c.self.view_is c.key_of-key.ensures

pub invariant_of-self-2 : goal.invariant_of-self-2
invariant_of-self-2 c =
    elim c.match-insert.branch [
      | in-Ok w ↦
          subst AreStored (sym (is_written c.self.inside.by_dialogue c.insert.new.self c.key_of-key.result (Some c.args.list) c.args.list.items
          w.in-Ok.ensures.updates.0 (items_some c.args.list.items (sym c.is_empty.ensures ∙ c.if-is_empty.false))))
          (stored_put _ (octets_of c.key_of-key.result) c.args.list.items c.self.invariant c.requires)
      | in-Err w ↦ subst (λ es. AreStored (finite.from_entries (map items_of es))) (sym w.in-Err.ensures.err) c.self.invariant
    ]

pub returns-clause-ok : goal.returns-clause-ok
returns-clause-ok c =
    elim c.match-insert.branch [
      | in-Ok w ↦
          rw w.result-is (is_written c.self.inside.by_dialogue c.insert.new.self c.key_of-key.result (Some c.args.list) c.args.list.items
          w.in-Ok.ensures.updates.0 (items_some c.args.list.items (sym c.is_empty.ensures ∙ c.if-is_empty.false))
          ∙ λ i. put_list (c.self.view_is i) (c.key_of-key.ensures i) c.args.list.items)
      | in-Err w ↦ rw w.result-is tt
    ]

pub returns-clause-were : goal.returns-clause-were
returns-clause-were c =
    elim c.match-insert.branch [
      | in-Ok w ↦
          rw w.result-is (was_removed c.key_of-key.result c.self.inside.by_dialogue c.args.self.now c.args.id w.in-Ok.were w.in-Ok.ensures.old c.self.view_is c.key_of-key.ensures)
      | in-Err w ↦ rw w.result-is tt
    ]

pub returns-clause-first : goal.returns-clause-first
returns-clause-first c =
    elim c.match-insert.branch [
      | in-Ok w ↦
          rw w.result-is (was_not_there c.key_of-key.result c.self.inside.by_dialogue c.args.self.now c.args.id w.in-Ok.were w.in-Ok.ensures.old c.self.view_is c.key_of-key.ensures)
      | in-Err w ↦ rw w.result-is tt
    ]

pub returns-clause-none : goal.returns-clause-none
returns-clause-none c =
    elim c.match-insert.branch [
      | in-Ok w ↦ rw w.result-is tt
      | in-Err w ↦
          rw w.result-is (was_not_there c.key_of-key.result c.self.inside.by_dialogue c.args.self.now c.args.id None (sym w.in-Err.ensures.absent) c.self.view_is c.key_of-key.ensures)
    ]
