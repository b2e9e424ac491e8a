use Rattle.std.proofs.Common.{◌∙◌}
use Rattle.records.proofs.Facts.{codes_read, codes_read_allowed}
use Rattle.records.proofs.AgainLines.{codes_again}
use Rattle.records.proofs.codes.read_codes.Goals as goal

pub returns-clause-found : goal.returns-clause-found
returns-clause-found c = codes_read c.args.field.now c.codes_field.result c.codes_field.ensures

pub returns-clause-only : goal.returns-clause-only
returns-clause-only c = λ codes is. c.codes_field.ensures ∙ codes_again c.args.field.now codes is

pub returns-clause-allowed : goal.returns-clause-allowed
returns-clause-allowed c = codes_read_allowed c.args.field.now c.codes_field.result c.codes_field.ensures
