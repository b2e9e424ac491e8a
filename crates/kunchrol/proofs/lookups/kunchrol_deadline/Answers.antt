use Rattle.std.proofs.Common.{◌≡◌, rules, inr}
use Rattle.std.specs.Prelude.{Some}
use Rattle.kunchrol.proofs.lookups.kunchrol_deadline.Goals as goal

pub returns-clause-told : goal.returns-clause-told
returns-clause-told c = λ is.
    let before : c.args.handle.now.value ≡ Some c.deref.result.now = search rules in
    record { is = c.deref.result.now; held_is = before; first = c.first_deadline-code.ensures.told is }

pub returns-clause-why : goal.returns-clause-why
returns-clause-why c = λ no.
    let before : c.args.handle.now.value ≡ Some c.deref.result.now = search rules in
    let why = c.first_deadline-code.ensures.why no in
    inr (c.deref.result.now, before, why.0, why.1)
