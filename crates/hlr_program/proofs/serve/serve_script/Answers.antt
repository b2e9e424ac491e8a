use Rattle.std.specs.Prelude.{Some}
use Rattle.hlr_program.proofs.serve.serve_script.Goals as goal

pub returns-in-Err-clause-ends : goal.returns-in-Err-clause-ends
returns-in-Err-clause-ends g c = (Some c.in-Err.fault, c.status.ensures, c.tell.ensures, c.in-Err.ensures.ends)
