use Rattle.std.proofs.Common.{rules, refl, inl, inr}
use Rattle.kunchrol.proofs.CallLemmas.{asked_for, none_found, refused_as}
use Rattle.kunchrol.proofs.kunchrol_codes.Goals as goal

pub returns-in-Ok-Some-clause-handled : goal.returns-in-Ok-Some-clause-handled
returns-in-Ok-Some-clause-handled c = λ is. asked_for (search rules) (c.give.ensures.handled is)

pub returns-in-Ok-Some-clause-why : goal.returns-in-Ok-Some-clause-why
returns-in-Ok-Some-clause-why c = λ no. refused_as (search rules) (c.give.ensures.why no)

pub returns-in-Ok-None-clause-why : goal.returns-in-Ok-None-clause-why
returns-in-Ok-None-clause-why c = λ _. inr (inl (refl, λ raw asked. none_found _ c.in-Ok-None.field-0-is (c.in-Ok-None.ensures.only raw asked)))
