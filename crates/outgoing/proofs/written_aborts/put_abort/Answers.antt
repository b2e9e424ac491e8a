use Rattle.std.proofs.Common.{[], ◌∷◌, ◌∙◌, ap, append-nil, option_to_list}
use Rattle.x690.specs.Tree.{Primitive}
use Rattle.frames.specs.SentTrees.{octets_of_sent, reason_tree}
use Rattle.frames.specs.declared.tags.TheConstants.{DESTINATION}
use Rattle.mapdlg.specs.Seen.{why}
use Rattle.outgoing.specs.Spelled.{spelled}
use Rattle.outgoing.proofs.Elements.{with_octets}
use Rattle.outgoing.proofs.written_aborts.put_abort.Goals as goal

pub returns : goal.returns
unfolding octets_of_sent
returns c = λ empty.
    let reason = option_to_list (reason_tree (why c.args.reason.now)) in
    let destination = c.args.destination.now in
    let one = c.in_ok-put_reason.ensures [] empty ∙ ap spelled (append-nil reason) in
    let two = with_octets DESTINATION _ destination _ reason c.as_slice.ensures.value (c.in_ok-put_primitive.ensures reason one) in
    c.wrap_all.ensures (Primitive DESTINATION destination ∷ reason) two
