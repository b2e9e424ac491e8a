use Rattle.std.proofs.Common.{◌*◌, ◌+◌, ◌<◌, arith, ◌∙◌, length}
use Rattle.std.proofs.lemmas.List.{length-set}
use Rattle.hlr_input.proofs.LotLemmas.{put_next}
use Rattle.hlr_input.proofs.frame_octets.octets_of_lot.Goals as goal

pub octets-preserved : goal.octets-preserved
octets-preserved c =
    let room : c.octets.place < length c.octets.octets = omega (arith, c.octets.invariant.0) in
    let high = c.values.invariant.1 (2 * c.octets.place) (omega arith) in
    let low = c.values.invariant.1 (2 * c.octets.place + 1) (omega arith) in
    (length-set _ _ _ ∙ c.octets.invariant.0, put_next c.args.digits.now c.octets.octets c.octets.place _ room (λ i. high i * 16 + low i) c.octets.invariant.1)
