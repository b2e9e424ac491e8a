use Rattle.std.proofs.Common.{arith}
use Rattle.hlr_types.proofs.PlaceLemmas.{last_two}
use Rattle.hlr_types.proofs.digits.Digits.last_two.Goals as goal

pub overflow_sub-result : goal.overflow_sub-result
overflow_sub-result c =
    let are = last_two c.number-number.result c.args.self.now c.number-number.ensures.digits c.requires c.number-number.ensures.value in
    omega (arith, are.high)

pub overflow_sub-result-2 : goal.overflow_sub-result-2
overflow_sub-result-2 c =
    let are = last_two c.number-number.result c.args.self.now c.number-number.ensures.digits c.requires c.number-number.ensures.value in
    omega (arith, are.low)

pub returns-clause-small : goal.returns-clause-small
returns-clause-small c =
    let are = last_two c.number-number.result c.args.self.now c.number-number.ensures.digits c.requires c.number-number.ensures.value in
    omega (arith, are.low, are.high, are.small_low, are.small_high)
