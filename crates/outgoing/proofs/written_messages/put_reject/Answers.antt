use Rattle.std.proofs.Common.{[], ◌∷◌, ap, ◌∙◌}
use Rattle.x690.specs.Tree.{Primitive}
use Rattle.frames.specs.ComponentForms.{problem_tag}
use Rattle.frames.specs.SentTrees.{rejected_tree}
use Rattle.q773_comp.specs.Seen.{side}
use Rattle.outgoing.specs.Spelled.{spelled}
use Rattle.outgoing.proofs.Elements.{size_behind}
use Rattle.outgoing.proofs.written_messages.put_reject.Goals as goal

pub returns : goal.returns
returns c = λ behind same.
    let reject = c.args.sent.now in
    let problem = Primitive (problem_tag (side reject.side)) (reject.problem ∷ []) in
    let one = c.in_ok-put_primitive.ensures behind same
    ∙ ap (λ tag. spelled (Primitive tag (reject.problem ∷ []) ∷ behind)) c.problem_tag.ensures.value in
    let two = c.in_ok-put_rejected.ensures (problem ∷ behind) one in
    c.wrap.ensures (rejected_tree reject.id ∷ problem ∷ []) behind two (size_behind _ _ behind c.len-kept.ensures same)
