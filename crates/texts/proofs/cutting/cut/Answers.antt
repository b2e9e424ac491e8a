use Rattle.std.proofs.Common.{◌+◌}
use Rattle.std.proofs.lemmas.List.{take_rest}
use Rattle.texts.proofs.PartsLemmas.{parts_found, parts_missing}
use Rattle.texts.proofs.cutting.cut.Goals as goal

pub returns-in-Some-clause-parts : goal.returns-in-Some-clause-parts
returns-in-Some-clause-parts c =
    rw (take_rest c.args.text.now (c.in-Some.at + 1)) (parts_found c.args.separator c.args.text.now c.in-Some.at c.in-Some.ensures)

pub returns-in-None-clause-parts : goal.returns-in-None-clause-parts
returns-in-None-clause-parts c = parts_missing c.args.separator c.args.text.now c.in-None.ensures
