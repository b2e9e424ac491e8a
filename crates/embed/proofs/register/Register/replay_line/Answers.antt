use Rattle.std.proofs.Common.{◌≡◌, Option, None, Some, sym, subst, ◌∙◌}
use Rattle.std.specs.Prelude.{IsSomeAnd}
use Rattle.embed.specs.declared.log_line.LogLine.{LogLine}
use Rattle.embed.specs.declared.log_line.LogLine.TheVariants.{Clocks}
use Rattle.embed.specs.LogLines.{IsThis}
use Rattle.embed.proofs.register.Register.replay_line.Goals as goal

pub returns-in-None-clause-fails : goal.returns-in-None-clause-fails
returns-in-None-clause-fails c = (
  (λ raw line. subst (λ (o : Option LogLine). IsSomeAnd o (IsThis raw)) c.in-None.is (c.in_ok-raw.ensures.event raw line)),
  (λ now line. let none : None ≡ Some (Clocks now) = sym c.in-None.is ∙ c.in_ok-raw.ensures.clocks now line in cc),
)
