use Rattle.std.proofs.Common.{◌∷◌, ◌++◌, map, option_map, option_to_list}
use Rattle.x690.specs.Tree.{Primitive}
use Rattle.frames.specs.SentTrees.{accepting, component_portion, component_trees, octets_of_sent}
use Rattle.frames.specs.declared.tags.TheConstants.{ORIGIN, DESTINATION}
use Rattle.mapctx.specs.Seen.{context}
use Rattle.q773_comp.specs.Seen.{rejection}
use Rattle.outgoing.specs.Seen.{components}
use Rattle.outgoing.proofs.Elements.{with_octets}
use Rattle.outgoing.proofs.written_messages.put_continue.Goals as goal

pub returns : goal.returns
unfolding octets_of_sent
returns c = λ empty.
    let portion = component_portion (component_trees (map rejection c.args.rejects.now) (components c.args.sent.now)) in
    let dialogue = option_to_list (option_map accepting (option_map context c.args.of)) in
    let destination = Primitive DESTINATION c.args.destination.now in
    let one = c.in_ok-put_answer.ensures portion (c.in_ok-put_portion.ensures empty) in
    let two = with_octets DESTINATION _ c.args.destination.now _ (dialogue ++ portion) c.as_slice.ensures.value
    (c.in_ok-put_primitive.ensures (dialogue ++ portion) one) in
    let three = with_octets ORIGIN _ c.args.origin.now _ (destination ∷ (dialogue ++ portion)) c.as_slice-2.ensures.value
    (c.in_ok-put_primitive-2.ensures (destination ∷ (dialogue ++ portion)) two) in
    c.wrap_all.ensures (Primitive ORIGIN c.args.origin.now ∷ destination ∷ (dialogue ++ portion)) three
