use Rattle.std.proofs.Common.{◌≡◌, ◌+◌, ◌*◌, ℕ, List, length, take, refl, ap, ◌∙◌, arith, rules}
use Rattle.hex.specs.Hex.{encode_with}
use Rattle.hlr_program.proofs.DigitLemmas.{lot_more, last_lot}
use Rattle.hlr_program.proofs.octet_digits.write_digits.Goals as goal

pub lots-init : goal.lots-init
unfolding encode_with
lots-init c = refl

pub lots-preserved : goal.lots-preserved
lots-preserved c =
    let end : c.in-Some.last + 16 ≡ length c.args.octets.now = search rules in
    ap (λ (ds : List ℕ). take (2 * (c.lots.place + 16)) ds) c.write_lot.ensures
    ∙ lot_more c.args.octets.now c.lots.digits _ c.lots.place (omega (arith, end)) c.lots.invariant

pub returns : goal.returns
returns c =
    let end : c.in-Some.last + 16 ≡ length c.args.octets.now = search rules in
    c.write_lot-2.ensures
    ∙ last_lot c.args.octets.now c.lots.digits c.lots.place c.in-Some.last c.lots-test.false end (c.lots.auto.digits ∙ c.requires) c.lots.invariant
