use Rattle.std.proofs.Common.{◌≡◌, [], ◌∷◌, ap, ◌∙◌, rules, to_z, of_z, w8}
use Rattle.outgoing.specs.Spelled.{spelled}
use Rattle.frames.specs.SentTrees.{id_tree, code_tree}
use Rattle.outgoing.proofs.written_components.put_invoke.Goals as goal

pub returns : goal.returns
returns c = λ parameter behind same size.
    let operation = code_tree c.args.operation in
    let same_id : to_z w8 (of_z w8 c.args.id) ≡ c.args.id = search rules in
    let code = c.in_ok-put_primitive.ensures (parameter ∷ behind) same in
    let id = c.in_ok-put_id.ensures (operation ∷ parameter ∷ behind) code ∙ ap (λ i. spelled (id_tree i ∷ operation ∷ parameter ∷ behind)) same_id in
    c.wrap.ensures (id_tree c.args.id ∷ operation ∷ parameter ∷ []) behind id size
