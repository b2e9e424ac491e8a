use Rattle.std.proofs.Common.{sym, ◌∙◌, subst, refl, None, []}
use Rattle.csl.specs.Tables.{AreStored, octets_of, put_list}
use Rattle.csl.proofs.Putting.{is_written, stored_put, was_removed, was_not_there}
use Rattle.csl.proofs.lists.Lists.remove.Goals as goal

pub invariant_of-self : goal.invariant_of-self
invariant_of-self c =
    subst AreStored (sym (is_written c.self.inside.by_dialogue c.remove.new.self c.key_of.result None [] c.remove.ensures.updates.0 refl))
    (stored_put _ (octets_of c.key_of.result) [] c.self.invariant tt)

pub returns-clause-removed : goal.returns-clause-removed
returns-clause-removed c =
    is_written c.self.inside.by_dialogue c.remove.new.self c.key_of.result None [] c.remove.ensures.updates.0 refl
    ∙ λ i. put_list (c.self.view_is i) (c.key_of.ensures i) []

pub returns-clause-were : goal.returns-clause-were
returns-clause-were c = was_removed c.key_of.result c.self.inside.by_dialogue c.args.self.now c.args.id c.remove.result c.remove.ensures.value c.self.view_is c.key_of.ensures

pub returns-clause-none : goal.returns-clause-none
returns-clause-none c = was_not_there c.key_of.result c.self.inside.by_dialogue c.args.self.now c.args.id c.remove.result c.remove.ensures.value c.self.view_is c.key_of.ensures
