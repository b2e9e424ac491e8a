use Rattle.std.proofs.Common.{[], ◌∷◌}
use Rattle.x690.specs.Tree.{Primitive, element}
use Rattle.machine.specs.Received.{OfUser}
use Rattle.frames.specs.SentTrees.{aare_tree}
use Rattle.frames.specs.declared.numbers.TheConstants.{CONTEXT_NAME_NOT_SUPPORTED, DIALOGUE_AS_ID, REJECT_PERMANENT}
use Rattle.frames.specs.declared.tags.TheConstants.{EXTERNAL, OBJECT_IDENTIFIER, SINGLE_ASN1_TYPE}
use Rattle.outgoing.proofs.Elements.{size_behind}
use Rattle.outgoing.proofs.written_aborts.put_refusing.Goals as goal

pub returns : goal.returns
returns c = λ behind same.
    let size = size_behind _ _ behind c.len-kept.ensures same in
    let refusal = aare_tree c.args.name.now REJECT_PERMANENT (OfUser CONTEXT_NAME_NOT_SUPPORTED) in
    let held = element SINGLE_ASN1_TYPE (refusal ∷ []) in
    let syntax = Primitive OBJECT_IDENTIFIER DIALOGUE_AS_ID in
    let one = c.in_ok-wrap.ensures (refusal ∷ []) behind (c.in_ok-put_refusal.ensures behind same) size in
    let two = c.in_ok-wrap-2.ensures (syntax ∷ held ∷ []) behind (c.in_ok-put_primitive.ensures (held ∷ behind) one) size in
    c.wrap-3.ensures (element EXTERNAL (syntax ∷ held ∷ []) ∷ []) behind two size
