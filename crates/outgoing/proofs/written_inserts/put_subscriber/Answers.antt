use Rattle.std.proofs.Common.{[], ◌∷◌, ◌∙◌}
use Rattle.std.proofs.lemmas.Result.{on_ok_weaker}
use Rattle.x690.specs.Tree.{Primitive}
use Rattle.hlr_types.specs.Identities.{address_octets}
use Rattle.frames.specs.declared.numbers.TheConstants.{SERVICE_GRANTED}
use Rattle.frames.specs.declared.tags.TheConstants.{INSERT_MSISDN, SUBSCRIBER_STATUS}
use Rattle.outgoing.proofs.Elements.{with_octets}
use Rattle.outgoing.proofs.written_inserts.put_subscriber.Goals as goal

pub returns : goal.returns
returns c = λ behind same.
    let status = Primitive SUBSCRIBER_STATUS (SERVICE_GRANTED ∷ []) in
    let one = c.in_ok-put_primitive.ensures behind same in
    rw c.in-Some.is (on_ok_weaker c.put_primitive-2.result
    (with_octets INSERT_MSISDN _ (address_octets c.in-Some.msisdn.now) _ (status ∷ behind) (c.as_slice.ensures.value ∙ c.octets.ensures.value))
    (c.put_primitive-2.ensures (status ∷ behind) one))
