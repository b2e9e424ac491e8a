use Rattle.std.proofs.Common.{ap, ◌∙◌, sym, subst, arith}
use Rattle.std.proofs.lemmas.Grind.{common_steps}
use Rattle.hlr_program.proofs.WriteLemmas.{Writing, writing_goes_on, writing_kept}
use Rattle.hlr_program.proofs.printed.print.Goals as goal
use Rattle.hlr_program.proofs.printed.print.Goals.{in-Ok, in-Err}

pub loop-preserved : goal.loop-preserved
loop-preserved g c =
    elim c.match-write.branch [
      | in-Ok w ↦ writing_goes_on _ _ c.loop.rest.now c.match-write.rest.now (g.W.Write.contents c.loop.out)
          (g.W.Write.contents c.write.new.self) w.in-Ok.count c.loop.invariant w.in-Ok.ensures.bytes
          (ap (λ r. r.now) w.rest-is ∙ grind (arith, common_steps))
      | in-Err w ↦ writing_kept _ _ c.match-write.rest.now (g.W.Write.contents c.loop.out) (g.W.Write.contents c.write.new.self)
          (subst (λ r. Writing (g.W.Write.contents c.args.out.now) c.args.text.now r.now (g.W.Write.contents c.loop.out))
          (sym w.rest-is) c.loop.invariant) w.in-Err.ensures.bytes
    ]
