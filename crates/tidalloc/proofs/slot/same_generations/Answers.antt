use Rattle.std.proofs.Common.{arith, refl}
use Rattle.tidalloc.proofs.SupplyLemmas.{differ_there, same_everywhere}
use Rattle.tidalloc.proofs.slot.same_generations.Goals as goal

pub returns-then-left-number : goal.returns-then-left-number
returns-then-left-number c =
    (λ t. cc, λ same. absurd (differ_there c.args.left.now c.args.right.now c.loop-number.number c.if-left-number.true same))

pub returns : goal.returns
returns c = (
  λ t. same_everywhere c.args.left.now c.args.right.now c.if-left-right.false
      (λ k h. c.loop-number.invariant k (omega (arith, h, c.loop-number.auto, c.loop-number-test.false))),
  λ same. refl,
)
