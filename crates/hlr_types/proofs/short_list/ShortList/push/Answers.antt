use Rattle.std.proofs.Common.{ap, length, arith}
use Rattle.hlr_types.specs.Padding.{padded_push, padded_count}
use Rattle.hlr_types.proofs.short_list.ShortList.push.Goals as goal

pub invariant_of-self : goal.invariant_of-self
invariant_of-self g c =
    let len = padded_count _ _ _ c.self.invariant in
    padded_push _ _ _ _ c.self.invariant (omega (arith, len, ap length c.self.view_is, c.requires))
