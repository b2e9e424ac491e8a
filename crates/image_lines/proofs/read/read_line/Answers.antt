use Rattle.std.proofs.Common.{◌∙◌}
use Rattle.image_lines.proofs.LineLaws.{line_bounded, line_found, read_again}
use Rattle.image_lines.proofs.read.read_line.Goals as goal

pub returns-clause-found : goal.returns-clause-found
returns-clause-found c = line_found c.args.text.now c.read_fields.result c.read_fields.ensures

pub returns-clause-only : goal.returns-clause-only
returns-clause-only c = λ line is e. c.read_fields.ensures ∙ read_again c.args.text.now line is e

pub returns-clause-bounded : goal.returns-clause-bounded
returns-clause-bounded c = line_bounded c.args.text.now c.read_fields.result c.read_fields.ensures
