use Rattle.std.proofs.Common.{◌≡◌, rules, inr}
use Rattle.std.specs.Prelude.{Some}
use Rattle.kunchrol.proofs.kunchrol_save.Goals as goal

pub returns-clause-saved : goal.returns-clause-saved
returns-clause-saved c = λ is.
    let before : c.args.handle.now.value ≡ Some c.deref.result.now = search rules in
    let same : c.put.new.self.value ≡ c.args.handle.now.value = search rules in
    let saved = c.save_records-code.ensures.saved is in
    record { was = c.deref.result.now; before_is = before; unchanged = same; text = saved.0; saves = saved.1; writes = saved.2 }

pub returns-clause-why : goal.returns-clause-why
returns-clause-why c = λ no.
    let before : c.args.handle.now.value ≡ Some c.deref.result.now = search rules in
    inr (c.deref.result.now, before, c.save_records-code.ensures.why no)
