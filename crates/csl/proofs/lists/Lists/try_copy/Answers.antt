use Rattle.std.proofs.Common.{sym, ◌∙◌, subst}
use Rattle.csl.specs.Tables.{AreStored}
use Rattle.csl.proofs.Putting.{copied_lists}
use Rattle.csl.proofs.lists.Lists.try_copy.Goals as goal

pub invariant_of-result : goal.invariant_of-result
invariant_of-result c = subst AreStored (sym (copied_lists c.self.inside.by_dialogue c.in_ok-clone.field-0 c.in_ok-clone.ensures.cases)) c.self.invariant

pub returns : goal.returns
returns c = copied_lists c.self.inside.by_dialogue c.in_ok-clone.field-0 c.in_ok-clone.ensures.cases ∙ c.self.view_is
