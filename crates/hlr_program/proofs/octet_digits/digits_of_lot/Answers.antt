use Rattle.std.proofs.Common.{ℕ, List, ◌∙◌, arith, ap, slice_index}
use Rattle.std.proofs.lemmas.List.{length-set}
use Rattle.hex.specs.Hex.{encode_with, upper_digits}
use Rattle.hex.proofs.Pairs.{encode_step, encode_done}
use Rattle.hlr_program.proofs.octet_digits.digits_of_lot.Goals as goal

pub octets-preserved : goal.octets-preserved
unfolding encode_with
octets-preserved c =
    let first = ap (λ (ds : List ℕ). slice_index ds 0) c.digits_of.ensures in
    let second = ap (λ (ds : List ℕ). slice_index ds 1) c.digits_of.ensures in (
      length-set _ _ _ ∙ length-set _ _ _ ∙ c.octets.invariant.0,
      encode_step upper_digits c.args.octets.now c.octets.digits c.octets.place _ _ (omega arith) (omega (arith, c.octets.invariant.0)) first second
          c.octets.invariant.1,
    )

pub returns : goal.returns
returns c = encode_done upper_digits c.args.octets.now c.octets.digits c.octets.place (omega arith) (omega (arith, c.octets.invariant.0)) c.octets.invariant.1
