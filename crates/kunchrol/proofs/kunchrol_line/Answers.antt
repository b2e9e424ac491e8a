use Rattle.std.proofs.Common.{rules, refl, inl, inr}
use Rattle.kunchrol.proofs.CallLemmas.{asked_for, none_there, not_some}
use Rattle.kunchrol.proofs.kunchrol_line.Goals as goal

pub returns-in-Ok-Some-Event-clause-given : goal.returns-in-Ok-Some-Event-clause-given
returns-in-Ok-Some-Event-clause-given c = λ is. inl (asked_for (search rules) (c.give.ensures.handled is))

pub returns-in-Ok-None-clause-why : goal.returns-in-Ok-None-clause-why
returns-in-Ok-None-clause-why c = λ _. inr (inl (
  refl,
  (λ raw line. none_there _ c.in-Ok-None.field-0-is (c.in-Ok-None.ensures.event raw line)),
  (λ now line. not_some c.in-Ok-None.field-0-is (c.in-Ok-None.ensures.clocks now line)),
))
