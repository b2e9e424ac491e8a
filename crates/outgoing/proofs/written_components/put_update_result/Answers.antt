use Rattle.std.proofs.Common.{◌≡◌, [], ◌∷◌, ◌∙◌, subst, rules, OnOk, to_z, of_z, w8}
use Rattle.x690.specs.Tree.{Primitive}
use Rattle.hlr_types.specs.Identities.{address_octets}
use Rattle.machine.specs.declared.numbers.TheConstants.{UPDATE_LOCATION}
use Rattle.frames.specs.SentTrees.{result_tree, update_result_tree}
use Rattle.frames.specs.declared.tags.TheConstants.{OCTET_STRING}
use Rattle.outgoing.specs.Spelled.{spelled}
use Rattle.outgoing.proofs.Elements.{with_octets, size_behind}
use Rattle.outgoing.proofs.written_components.put_update_result.Goals as goal

pub returns : goal.returns
returns c = λ behind same.
    let octets = address_octets c.args.hlr.now in
    let answer = update_result_tree c.args.hlr.now in
    let same_id : to_z w8 (of_z w8 c.args.id) ≡ c.args.id = search rules in
    let size = size_behind _ _ behind c.len-kept.ensures same in
    let one = with_octets OCTET_STRING _ octets _ behind (c.as_slice.ensures.value ∙ c.octets.ensures.value)
    (c.in_ok-put_primitive.ensures behind same) in
    let two = c.in_ok-wrap.ensures (Primitive OCTET_STRING octets ∷ []) behind one size in
    subst (λ i. OnOk c.put_result_last.result (c.put_result_last.new.buffer ≡ spelled (result_tree i UPDATE_LOCATION answer ∷ behind))) same_id
    (c.put_result_last.ensures answer behind two size)
