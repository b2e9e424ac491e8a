use Rattle.std.proofs.Common.{sym, ◌∙◌}
use Rattle.hlr_input.proofs.ValueLaws.{value_below, value_read, value_none}
use Rattle.hlr_input.proofs.frame_octets.digit_value.Goals as goal

pub returns-in-Ok-clause-value : goal.returns-in-Ok-clause-value
returns-in-Ok-clause-value c = value_read c.args.digit c.in-Ok.octets (sym c.from_hex.ensures ∙ c.in-Ok.is)

pub returns-in-Ok-clause-bound : goal.returns-in-Ok-clause-bound
returns-in-Ok-clause-bound c = rw (value_read c.args.digit c.in-Ok.octets (sym c.from_hex.ensures ∙ c.in-Ok.is)) (value_below c.args.digit)

pub returns-in-Err-clause-value : goal.returns-in-Err-clause-value
returns-in-Err-clause-value c = value_none c.args.digit c.in-Err.field-0 (sym c.from_hex.ensures ∙ c.in-Err.is)
