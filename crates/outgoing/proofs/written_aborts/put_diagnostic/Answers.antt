use Rattle.std.proofs.Common.{[], ◌∷◌}
use Rattle.x690.specs.Tree.{Primitive}
use Rattle.frames.specs.DialogueForms.{octet_in}
use Rattle.frames.specs.declared.numbers.TheConstants.{CONTEXT_NAME_NOT_SUPPORTED}
use Rattle.frames.specs.declared.tags.TheConstants.{DIAGNOSTIC_OF_USER, INTEGER}
use Rattle.outgoing.proofs.Elements.{size_behind}
use Rattle.outgoing.proofs.written_aborts.put_diagnostic.Goals as goal

pub returns : goal.returns
returns c = λ behind same.
    let size = size_behind _ _ behind c.len-kept.ensures same in
    let one = c.in_ok-put_primitive.ensures behind same in
    let two = c.in_ok-wrap.ensures (Primitive INTEGER (CONTEXT_NAME_NOT_SUPPORTED ∷ []) ∷ []) behind one size in
    c.wrap-2.ensures (octet_in DIAGNOSTIC_OF_USER CONTEXT_NAME_NOT_SUPPORTED ∷ []) behind two size
