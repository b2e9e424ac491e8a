use Rattle.std.proofs.Common.{◌≤◌, arith}
use Rattle.hlr_program.proofs.EndLemmas.{ends_in_script, ends_loaded, ends_passed_on}
use Rattle.hlr_program.proofs.serve.serve.Goals as goal

pub returns-in_err-script-clause-ends : goal.returns-in_err-script-clause-ends
returns-in_err-script-clause-ends g c =
    let few : c.args.options.now.workers ≤ 16 = omega arith in
    ends_passed_on c.from_residual-in_err-script.result c.in_err-script.field-0.0 c.args.options.now (g.A.Read.remaining c.args.records.now)
    (g.B.Read.remaining c.args.script.now)
    (g.W.Write.contents c.args.out.now) _ c.from_residual-in_err-script.ensures.1
    (ends_in_script c.args.options.now c.in_ok-loaded.loaded (g.A.Read.remaining c.args.records.now) (g.B.Read.remaining c.args.script.now)
    (g.W.Write.contents c.args.out.now)
    c.in_err-script.field-0.0 few c.in_ok-loaded.ensures.loaded c.in_err-script.ensures.stops)

pub returns-clause-ends : goal.returns-clause-ends
returns-clause-ends g c =
    let few : c.args.options.now.workers ≤ 16 = omega arith in
    ends_loaded c.args.options.now c.in_ok-loaded.loaded c.in_ok-script.script.text.items (g.A.Read.remaining c.args.records.now) (g.B.Read.remaining c.args.script.now)
    (g.W.Write.contents c.args.out.now)
    (g.W.Write.contents c.run_loaded.new.out) few c.in_ok-loaded.ensures.loaded
    c.in_ok-script.ensures.checked.good c.in_ok-script.ensures.whole
    c.run_loaded.result c.run_loaded.ensures.ran c.run_loaded.ensures.stops
