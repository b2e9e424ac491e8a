use Rattle.std.proofs.Common.{ℕ, arith, length, ap, subst, sym}
use Rattle.hlr_program.specs.Parts.{IsReady}
use Rattle.hlr_program.proofs.PartLemmas.{opens_ready}
use Rattle.hlr_program.proofs.alone.Alone.new.Goals as goal

pub invariant_of-result : goal.invariant_of-result
invariant_of-result c = (
  subst (λ (n : ℕ). IsReady c.keep_of-keep.result c.in_ok-node.node n) (sym c.new-3.ensures.room)
      (opens_ready c.args.loaded c.keep_of-keep.result c.in_ok-node.node c.in_ok-node.ensures.begins c.in_ok-node.ensures.keeps),
  omega (arith, ap length c.new-4.ensures.items),
)
