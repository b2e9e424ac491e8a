use Rattle.std.proofs.Common.{subst, sym, ap, ◌≡◌, ℕ, List}
use Rattle.machine.specs.Received.{Verdict}
use Rattle.frames.specs.Frames.{IsVerdict}
use Rattle.frames.proofs.JudgingLaws.{one_verdict}
use Rattle.msgarena.specs.JudgedFrame.{JudgedFrame}
use Rattle.msgarena.specs.Seen.{seen}
use Rattle.msgarena.proofs.round.Round.take_owned.Goals as goal

-- the frame that is made has the verdict on what was read
judged : (octets read : List ℕ) (made : JudgedFrame) (v : Verdict) → read ≡ octets → IsVerdict read v → made.verdict ≡ v
    → IsVerdict octets made.verdict
judged octets read made v same is e = subst (IsVerdict octets) (sym e) (subst (λ (os : List ℕ). IsVerdict os v) same is)

pub new-requires : goal.new-requires
new-requires c = subst (λ (octets : List ℕ). IsVerdict octets (seen c.in_ok-verdict.verdict)) c.deref.ensures.value c.in_ok-verdict.ensures

pub returns-in-Ok-clause-judged : goal.returns-in-Ok-clause-judged
returns-in-Ok-clause-judged c =
    judged c.args.octets.items _ c.new.result _ c.deref.ensures.value c.in_ok-verdict.ensures (ap (λ (h : JudgedFrame). h.verdict) c.new.ensures)

pub returns-in-Ok-clause-only : goal.returns-in-Ok-clause-only
returns-in-Ok-clause-only c = λ v is. one_verdict c.args.octets.items _ v (returns-in-Ok-clause-judged c) is

pub returns-in-Err-clause-judged : goal.returns-in-Err-clause-judged
returns-in-Err-clause-judged c =
    judged c.args.octets.items _ c.new-in-Err.result _ c.deref.ensures.value c.in_ok-verdict.ensures
    (ap (λ (h : JudgedFrame). h.verdict) c.new-in-Err.ensures)

pub returns-in-Err-clause-only : goal.returns-in-Err-clause-only
returns-in-Err-clause-only c = λ v is. one_verdict c.args.octets.items _ v (returns-in-Err-clause-judged c) is
