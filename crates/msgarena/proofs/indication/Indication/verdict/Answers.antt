use Rattle.std.proofs.Common.{subst}
use Rattle.frames.specs.Frames.{IsVerdict}
use Rattle.msgarena.specs.JudgedFrame.{JudgedFrame}
use Rattle.msgarena.proofs.indication.Indication.verdict.Goals as goal

pub returns-clause-judged : goal.returns-clause-judged
returns-clause-judged c = subst (λ (h : JudgedFrame). IsVerdict h.octets h.verdict) c.self.view_is c.self.invariant
