use Rattle.hlr_program.proofs.WriteLemmas.{Writing}
use Rattle.hlr_program.proofs.printed.print.Given as goal

abbrev pub invariant-loop : goal.invariant-loop
invariant-loop g l = Writing (g.W.Write.contents l.fn.out) l.text l.rest (g.W.Write.contents l.out)
