use Rattle.image_lines.proofs.SignedLemmas.{signed_exact}
use Rattle.image_lines.proofs.numbers.read_signed.Goals as goal

pub returns-clause-exact : goal.returns-clause-exact
returns-clause-exact c =
    signed_exact c.args.field.now c.parse_signed.result c.parse_signed.ensures.found c.parse_signed.ensures.fits c.parse_signed.ensures.only
