use Rattle.std.proofs.Common.{◌≡◌, [], ◌∷◌, ap, ◌∙◌, subst, rules, OnOk, to_z, of_z, w8}
use Rattle.x690.specs.Tree.{Primitive}
use Rattle.hlr_types.specs.Tbcd.{tbcd}
use Rattle.frames.specs.SentTrees.{cancel_tree, cancellation_octet, invoke_tree}
use Rattle.frames.specs.declared.tags.TheConstants.{ENUMERATED, OCTET_STRING}
use Rattle.frames.specs.declared.numbers.TheConstants.{CANCEL_LOCATION}
use Rattle.mapargs_loc.specs.Seen.{cancellation}
use Rattle.outgoing.specs.Spelled.{spelled}
use Rattle.outgoing.proofs.Elements.{with_octets, size_behind}
use Rattle.outgoing.proofs.written_components.put_cancel.Goals as goal

pub returns : goal.returns
returns c = λ behind same.
    let why = cancellation c.args.why in
    let argument = cancel_tree c.args.imsi.now why in
    let kind = Primitive ENUMERATED (cancellation_octet why ∷ []) in
    let imsi = Primitive OCTET_STRING (tbcd c.args.imsi.now) in
    let same_id : to_z w8 (of_z w8 c.args.id) ≡ c.args.id = search rules in
    let size = size_behind _ _ behind c.len-kept.ensures same in
    let one = with_octets ENUMERATED _ (cancellation_octet why ∷ []) _ behind (ap (λ x. x ∷ []) c.cancellation_type_octet.ensures)
    (c.in_ok-put_primitive.ensures behind same) in
    let two = with_octets OCTET_STRING _ (tbcd c.args.imsi.now) _ (kind ∷ behind) (c.as_slice.ensures.value ∙ c.octets.ensures.value)
    (c.in_ok-put_primitive-2.ensures (kind ∷ behind) one) in
    let three = c.in_ok-wrap.ensures (imsi ∷ kind ∷ []) behind two size in
    subst (λ i. OnOk c.put_invoke.result (c.put_invoke.new.buffer ≡ spelled (invoke_tree i CANCEL_LOCATION argument ∷ behind))) same_id
    (c.put_invoke.ensures argument behind three size)
