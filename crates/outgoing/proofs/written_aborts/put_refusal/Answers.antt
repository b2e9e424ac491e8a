use Rattle.std.proofs.Common.{[], ◌∷◌}
use Rattle.machine.specs.Received.{OfUser}
use Rattle.frames.specs.DialogueForms.{diagnostic_tree, octet_in}
use Rattle.frames.specs.SentTrees.{context_tree, version_tree}
use Rattle.frames.specs.declared.numbers.TheConstants.{CONTEXT_NAME_NOT_SUPPORTED, REJECT_PERMANENT}
use Rattle.frames.specs.declared.tags.TheConstants.{RESULT}
use Rattle.outgoing.proofs.Elements.{size_behind}
use Rattle.outgoing.proofs.written_aborts.put_refusal.Goals as goal

pub returns : goal.returns
returns c = λ behind same.
    let diagnostic = diagnostic_tree (OfUser CONTEXT_NAME_NOT_SUPPORTED) in
    let outcome = octet_in RESULT REJECT_PERMANENT in
    let name = context_tree c.args.name.now in
    let one = c.in_ok-put_result.ensures (diagnostic ∷ behind) (c.in_ok-put_diagnostic.ensures behind same) in
    let two = c.in_ok-put_name.ensures (outcome ∷ diagnostic ∷ behind) one in
    let three = c.in_ok-put_primitive.ensures (name ∷ outcome ∷ diagnostic ∷ behind) two in
    c.wrap.ensures (version_tree ∷ name ∷ outcome ∷ diagnostic ∷ []) behind three (size_behind _ _ behind c.len-kept.ensures same)
