use Rattle.hlr_program.proofs.HalfLemmas.{lines_cut, lines_whole}
use Rattle.hlr_program.proofs.check.end_of_line.Goals as goal

pub returns-then-text-end-eq10-clause-cut : goal.returns-then-text-end-eq10-clause-cut
returns-then-text-end-eq10-clause-cut c = lines_cut c.args.text.now c.loop-end.end c.loop-end-test.true c.if-text-end-eq10.true

pub returns-clause-cut : goal.returns-clause-cut
returns-clause-cut c = lines_whole c.args.text.now
