use Rattle.std.proofs.Common.{◌≡◌, ◌∷◌, ◌++◌, ◌∙◌, sym, ap, append_assoc, subst, rules, OnOk, option_map, option_to_list, to_z, of_z, w8}
use Rattle.x690.specs.Tree.{Primitive, element}
use Rattle.hlr_types.specs.Tbcd.{tbcd}
use Rattle.frames.specs.SentTrees.{invoke_tree, subscriber_trees, teleservice_trees}
use Rattle.frames.specs.declared.numbers.TheConstants.{INSERT_SUBSCRIBER_DATA}
use Rattle.frames.specs.declared.tags.TheConstants.{INSERT_IMSI, SEQUENCE}
use Rattle.outgoing.specs.Spelled.{spelled}
use Rattle.outgoing.proofs.Elements.{size_behind}
use Rattle.outgoing.proofs.written_inserts.put_insert.Goals as goal

pub returns : goal.returns
returns c = λ behind same.
    let imsi = option_to_list (option_map (λ digits. Primitive INSERT_IMSI (tbcd digits)) (option_map (λ i. i.now) c.args.imsi)) in
    let subscriber = subscriber_trees (option_map (λ m. m.now) c.args.msisdn) in
    let codes = teleservice_trees c.args.codes.now in
    let argument = element SEQUENCE (imsi ++ (subscriber ++ codes)) in
    let same_id : to_z w8 (of_z w8 c.args.id) ≡ c.args.id = search rules in
    let size = size_behind _ _ behind c.len-kept.ensures same in
    let one = c.in_ok-put_teleservices.ensures behind same in
    let two = c.in_ok-put_subscriber.ensures (codes ++ behind) one in
    let three = c.in_ok-put_identity.ensures (subscriber ++ (codes ++ behind)) two in
    let regroup = sym (append_assoc imsi (subscriber ++ codes) behind ∙ ap (λ x. imsi ++ x) (append_assoc subscriber codes behind)) in
    let four = c.in_ok-wrap.ensures (imsi ++ (subscriber ++ codes)) behind (three ∙ ap spelled regroup) size in
    subst (λ i. OnOk c.put_invoke.result (c.put_invoke.new.buffer ≡ spelled (invoke_tree i INSERT_SUBSCRIBER_DATA argument ∷ behind))) same_id
    (c.put_invoke.ensures argument behind four size)
