use Rattle.records.proofs.DigitParts.{cut_is}
use Rattle.records.proofs.cut_digits.cut_digits.Goals as goal

pub returns-clause-parts : goal.returns-clause-parts
returns-clause-parts c =
    cut_is c.args.separator c.args.text.now c.from_front.result c.requires c.from_front.ensures.found (c.from_front.ensures.only c.requires)
