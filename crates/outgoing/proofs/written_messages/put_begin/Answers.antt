use Rattle.std.proofs.Common.{[], ◌∷◌}
use Rattle.x690.specs.Tree.{Primitive}
use Rattle.frames.specs.SentTrees.{asking, component_portion, component_trees, octets_of_sent}
use Rattle.frames.specs.declared.tags.TheConstants.{ORIGIN}
use Rattle.mapctx.specs.Seen.{context}
use Rattle.outgoing.specs.Seen.{components}
use Rattle.outgoing.proofs.Elements.{with_octets}
use Rattle.outgoing.proofs.written_messages.put_begin.Goals as goal

pub returns : goal.returns
unfolding octets_of_sent
returns c = λ empty.
    let portion = component_portion (component_trees [] (components c.args.sent.now)) in
    let dialogue = asking (context c.args.of) in
    let origin = c.args.origin.now in
    let one = c.in_ok-put_request.ensures portion (c.in_ok-put_portion.ensures empty) in
    let two = with_octets ORIGIN _ origin _ (dialogue ∷ portion) c.as_slice.ensures.value (c.in_ok-put_primitive.ensures (dialogue ∷ portion) one) in
    c.wrap_all.ensures (Primitive ORIGIN origin ∷ dialogue ∷ portion) two
