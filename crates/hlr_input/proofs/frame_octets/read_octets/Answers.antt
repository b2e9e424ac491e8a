use Rattle.std.specs.Prelude.{option_map}
use Rattle.std.proofs.lemmas.Result.{IfOk-weaker}
use Rattle.hlr_input.specs.Octets.{ids_in}
use Rattle.hlr_input.proofs.OctetLaws.{octets_found}
use Rattle.hlr_input.proofs.frame_octets.read_octets.Goals as goal

pub returns-clause-found : goal.returns-clause-found
returns-clause-found c =
    IfOk-weaker c.octets_with.result _ _
    (λ read e. octets_found (λ octets. octets.items) (ids_in (option_map (λ i. i.now) c.args.ids)) c.args.text.now read e) c.octets_with.ensures.read
