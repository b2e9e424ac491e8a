use Rattle.std.proofs.Common.{◌≡◌, [], ◌∷◌, ◌++◌, ◌∙◌, subst, rules, OnOk, option_map, option_to_list, to_z, of_z, w8}
use Rattle.x690.specs.Tree.{Primitive, element}
use Rattle.hlr_types.specs.Tbcd.{tbcd}
use Rattle.hlr_types.specs.Identities.{address_octets}
use Rattle.machine.specs.declared.numbers.TheConstants.{SEND_ROUTING_INFO_FOR_SM}
use Rattle.frames.specs.SentTrees.{result_tree}
use Rattle.frames.specs.declared.tags.TheConstants.{OCTET_STRING, NETWORK_NODE_NUMBER, LOCATION_INFO, SEQUENCE}
use Rattle.outgoing.specs.Spelled.{spelled}
use Rattle.outgoing.proofs.Elements.{with_octets, size_behind}
use Rattle.outgoing.proofs.written_components.put_route_result.Goals as goal

pub returns : goal.returns
returns c = λ behind same.
    let lmsi = option_to_list (option_map (Primitive OCTET_STRING) (option_map (λ l. l.now) c.args.lmsi)) in
    let number = Primitive NETWORK_NODE_NUMBER (address_octets c.args.msc.now) in
    let location = element LOCATION_INFO (number ∷ lmsi) in
    let imsi = Primitive OCTET_STRING (tbcd c.args.imsi.now) in
    let answer = element SEQUENCE (imsi ∷ location ∷ []) in
    let same_id : to_z w8 (of_z w8 c.args.id) ≡ c.args.id = search rules in
    let size = size_behind _ _ behind c.len-kept.ensures same in
    let one = with_octets NETWORK_NODE_NUMBER _ (address_octets c.args.msc.now) _ (lmsi ++ behind)
    (c.as_slice.ensures.value ∙ c.octets.ensures.value)
    (c.in_ok-put_primitive.ensures (lmsi ++ behind) (c.in_ok-put_lmsi.ensures behind same)) in
    let two = c.in_ok-wrap.ensures (number ∷ lmsi) behind one size in
    let three = with_octets OCTET_STRING _ (tbcd c.args.imsi.now) _ (location ∷ behind)
    (c.as_slice-2.ensures.value ∙ c.octets-2.ensures.value) (c.in_ok-put_primitive-2.ensures (location ∷ behind) two) in
    let four = c.in_ok-wrap-2.ensures (imsi ∷ location ∷ []) behind three size in
    subst (λ i. OnOk c.put_result_last.result (c.put_result_last.new.buffer ≡ spelled (result_tree i SEND_ROUTING_INFO_FOR_SM answer ∷ behind))) same_id
    (c.put_result_last.ensures answer behind four size)
