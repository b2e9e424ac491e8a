use Rattle.std.proofs.Common.{◌≡◌, rules, inr}
use Rattle.std.specs.Prelude.{Some}
use Rattle.kunchrol.proofs.lookups.kunchrol_subject.Goals as goal

pub returns-clause-told : goal.returns-clause-told
returns-clause-told c = λ is.
    let before : c.args.handle.now.value ≡ Some c.deref.result.now = search rules in
    let written = c.write_subject-code.ensures.written is in
    record { is = c.deref.result.now; held_is = before; imsi = written.0; subject = written.1; writes = written.2 }

pub returns-clause-why : goal.returns-clause-why
returns-clause-why c = λ no.
    let before : c.args.handle.now.value ≡ Some c.deref.result.now = search rules in
    inr (c.deref.result.now, before, c.write_subject-code.ensures.why no)
