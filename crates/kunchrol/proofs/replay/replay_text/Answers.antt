use Rattle.std.proofs.Common.{refl}
use Rattle.kunchrol.proofs.replay.replay_text.Goals as goal

pub returns-in-Err-clause-why : goal.returns-in-Err-clause-why
returns-in-Err-clause-why c = λ _. record {
  fault = c.in-Err.fault;
  stops = c.in-Err.ensures.stops;
  used_is = refl;
  line_is = refl;
  code_is = c.code_of_line.ensures;
}
