use Rattle.std.proofs.Common.{◌≡◌, [], ◌∷◌, ap, ◌∙◌, rules, to_z, of_z, w8}
use Rattle.frames.specs.SentTrees.{id_tree}
use Rattle.outgoing.specs.Spelled.{spelled}
use Rattle.outgoing.proofs.Elements.{size_behind}
use Rattle.outgoing.proofs.written_components.put_empty_result.Goals as goal

pub returns : goal.returns
returns c = λ behind same.
    let same_id : to_z w8 (of_z w8 c.args.id) ≡ c.args.id = search rules in
    let id = c.in_ok-put_id.ensures behind same ∙ ap (λ i. spelled (id_tree i ∷ behind)) same_id in
    c.wrap.ensures (id_tree c.args.id ∷ []) behind id (size_behind _ _ behind c.len-kept.ensures same)
