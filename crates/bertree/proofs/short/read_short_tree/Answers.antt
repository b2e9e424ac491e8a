use Rattle.std.proofs.Common.{arith, rules, ap, ◌∙◌}
use Rattle.std.proofs.lemmas.Bool.Decides.{nat_tests}
use Rattle.bertree.specs.Nodes.{listed}
use Rattle.bertree.proofs.Shorts.{constructed-whole}
use Rattle.bertree.proofs.short.read_short_tree.Goals as goal

pub returns : goal.returns
returns c =
    let added = c.in_ok-read_short_elements.ensures.added in
    constructed-whole c.in_ok-element.element.tag c.new.result _ _ _ _ _ c.in_ok-element.ensures (search rules)
    (grind (arith, nat_tests)) (omega arith) (rw c.in-Ok.ensures.items at added) (c.new.ensures ∙ ap listed c.into_bump_slice.ensures)
