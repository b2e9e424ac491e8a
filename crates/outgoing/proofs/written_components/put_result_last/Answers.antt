use Rattle.std.proofs.Common.{◌≡◌, [], ◌∷◌, ap, ◌∙◌, rules, to_z, of_z, w8}
use Rattle.x690.specs.Tree.{element}
use Rattle.outgoing.specs.Spelled.{spelled}
use Rattle.frames.specs.SentTrees.{id_tree, code_tree}
use Rattle.frames.specs.declared.tags.TheConstants.{SEQUENCE}
use Rattle.outgoing.proofs.written_components.put_result_last.Goals as goal

pub returns : goal.returns
returns c = λ parameter behind same size.
    let outcome = code_tree c.args.operation ∷ parameter ∷ [] in
    let same_id : to_z w8 (of_z w8 c.args.id) ≡ c.args.id = search rules in
    let code = c.in_ok-put_primitive.ensures (parameter ∷ behind) same in
    let sequence = c.in_ok-wrap.ensures outcome behind code size in
    let id = c.in_ok-put_id.ensures (element SEQUENCE outcome ∷ behind) sequence
    ∙ ap (λ i. spelled (id_tree i ∷ element SEQUENCE outcome ∷ behind)) same_id in
    c.wrap-2.ensures (id_tree c.args.id ∷ element SEQUENCE outcome ∷ []) behind id size
