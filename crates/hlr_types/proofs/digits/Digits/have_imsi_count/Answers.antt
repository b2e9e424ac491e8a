use Rattle.std.proofs.Common.{◌&&◌, length, nat_le, ap, ◌∙◌}
use Rattle.hlr_types.proofs.PlaceLemmas.{imsi_count}
use Rattle.hlr_types.proofs.digits.Digits.have_imsi_count.Goals as goal

pub returns-then-self-ne0 : goal.returns-then-self-ne0
returns-then-self-ne0 c =
    imsi_count c.self.inside.word c.self.invariant c.if-self-ne0.true
    ∙ ap (λ ds. nat_le 5 (length ds) && nat_le (length ds) 15) c.self.view_is
