use Rattle.std.proofs.Common.{rules, ◌≡◌, sym, subst, ◌∙◌, map}
use Rattle.frames.specs.Components.{components_of}
use Rattle.bertree.specs.Nodes.{elements}
use Rattle.q773_comp.specs.Forms.{AreRead}
use Rattle.q773_comp.specs.Seen.{seen}
use Rattle.q773_comp.proofs.Lists.{are_found, are_again}
use Rattle.q773_comp.proofs.list.read_components.Goals as goal

pub returns-clause-found : goal.returns-clause-found
returns-clause-found c =
    let trees = elements c.args.nodes in
    let all : map seen c.loop-node.components.items ≡ components_of trees = search rules in
    subst (AreRead trees) (sym all) (are_found trees)

pub returns-clause-only : goal.returns-clause-only
returns-clause-only c =
    let trees = elements c.args.nodes in
    let all : map seen c.loop-node.components.items ≡ components_of trees = search rules in
    λ cs are. all ∙ are_again trees cs are
