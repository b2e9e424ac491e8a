use Rattle.hlr_program.proofs.EndLemmas.{not_flushed}
use Rattle.hlr_program.proofs.serve.run_loaded.Goals as goal

pub returns-in-Ok-2-clause-stops : goal.returns-in-Ok-2-clause-stops
returns-in-Ok-2-clause-stops g c =
    not_flushed c.args.options.now c.args.loaded c.args.script.now.text.items (g.W.Write.contents c.args.out.now)
    (g.W.Write.contents c.run_and_list-ran.new.out) (g.W.Write.contents c.flush-flushed.new.self) c.flush-flushed.ensures.bytes
    (rw c.in-Ok-2.is at c.run_and_list-ran.ensures.ran)
