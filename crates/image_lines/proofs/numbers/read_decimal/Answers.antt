use Rattle.image_lines.proofs.NumberLemmas.{decimal_exact}
use Rattle.image_lines.proofs.numbers.read_decimal.Goals as goal

pub returns-clause-exact : goal.returns-clause-exact
returns-clause-exact c =
    decimal_exact c.args.field.now c.parse_decimal.result c.parse_decimal.ensures.found c.parse_decimal.ensures.fits c.parse_decimal.ensures.only
