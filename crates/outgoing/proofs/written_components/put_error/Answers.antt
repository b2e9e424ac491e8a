use Rattle.std.proofs.Common.{◌≡◌, ◌∷◌, ◌++◌, ap, ◌∙◌, rules, option_to_list, to_z, of_z, w8}
use Rattle.frames.specs.SentTrees.{id_tree, code_tree, error_parameter}
use Rattle.outgoing.specs.Spelled.{spelled}
use Rattle.outgoing.proofs.Elements.{size_behind}
use Rattle.outgoing.proofs.written_components.put_error.Goals as goal

pub returns : goal.returns
returns c = λ behind same.
    let parameter = option_to_list (error_parameter c.args.code) in
    let code = code_tree c.args.code in
    let same_id : to_z w8 (of_z w8 c.args.id) ≡ c.args.id = search rules in
    let one = c.in_ok-put_primitive.ensures (parameter ++ behind) (c.in_ok-put_error_parameter.ensures behind same) in
    let two = c.in_ok-put_id.ensures (code ∷ (parameter ++ behind)) one ∙ ap (λ i. spelled (id_tree i ∷ code ∷ (parameter ++ behind))) same_id in
    c.wrap.ensures (id_tree c.args.id ∷ code ∷ parameter) behind two (size_behind _ _ behind c.len-kept.ensures same)
