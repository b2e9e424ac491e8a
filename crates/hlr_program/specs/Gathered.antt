-- Events that a register was given, and has not handled yet.
use Rattle.std.specs.Prelude.{List, refl}
use Rattle.std.specs.Coded.{Coded, code_by, coded×, coded_list}
use Rattle.frames.specs.Octets.{RawEvent}
use Rattle.shardlog.specs.Codes.{event_code}

-- What the register is without them, and these events, in order.
pub record Gathered (A : Type 0) : Type 0 where
  pub register : A
  pub part : List RawEvent

abbrev pub with_part : {A : Type 0} → A → List RawEvent → Gathered A
with_part register part = record { register = register; part = part }

abbrev pub gathered_code : (A : Type 0) → Coded A → Coded (Gathered A)
gathered_code A code = code_by (A × List RawEvent) (coded× code (coded_list event_code)) (λ g. (g.register, g.part)) (λ p. with_part p.0 p.1) (λ _. refl)
