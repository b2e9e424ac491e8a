use Rattle.std.proofs.Common.{sym, ◌∙◌, refl, arith}
use Rattle.hlr_types.proofs.FrontLemmas.{next_digit}
use Rattle.hlr_types.proofs.digits.leading_number.Goals as goal

pub overflow_mul-number : goal.overflow_mul-number
overflow_mul-number c =
    let is = next_digit c.loop-character.number c.loop-character.count c.loop-character.character-index _ c.args.text.now c.loop-character.invariant.front
    c.loop-character.invariant.all (omega arith) c.loop-character-test.true refl (sym c.is_digit.ensures ∙ c.if-not-is_digit.false) in
    omega (arith, is.small)

pub overflow_add-number : goal.overflow_add-number
overflow_add-number c =
    let is = next_digit c.loop-character.number c.loop-character.count c.loop-character.character-index _ c.args.text.now c.loop-character.invariant.front
    c.loop-character.invariant.all (omega arith) c.loop-character-test.true refl (sym c.is_digit.ensures ∙ c.if-not-is_digit.false) in
    omega (arith, is.small, is.most, c.from.ensures)

pub loop-character-preserved : goal.loop-character-preserved
loop-character-preserved c =
    let is = next_digit c.loop-character.number c.loop-character.count c.loop-character.character-index _ c.args.text.now c.loop-character.invariant.front
    c.loop-character.invariant.all (omega arith) c.loop-character-test.true refl (sym c.is_digit.ensures ∙ c.if-not-is_digit.false) in
    record { all = omega (arith, c.loop-character.invariant.all); front = rw c.from.ensures is.next }
