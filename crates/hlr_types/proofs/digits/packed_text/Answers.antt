use Rattle.std.proofs.Common.{arith}
use Rattle.hlr_types.proofs.TextLemmas.{character}
use Rattle.hlr_types.proofs.digits.packed_text.Goals as goal

pub overflow_mul-number : goal.overflow_mul-number
overflow_mul-number c =
    let is = character c.loop-octet.octet-index c.loop-octet.number c.args.text.now c.requires.some c.requires.most c.requires.digits
    c.loop-octet.invariant c.loop-octet-test.true in
    omega (arith, is.small)
