use Rattle.std.proofs.Common.{◌≡◌, rules, sym, ◌∙◌, refl, inl, inr}
use Rattle.std.specs.Prelude.{None, Some, option_copied}
use Rattle.kunchrol.proofs.lookups.kunchrol_record_of_number.Goals as goal

pub returns-in_default-clause-why : goal.returns-in_default-clause-why
returns-in_default-clause-why c = λ _.
    inl (refl, λ node found is. let none : None ≡ Some is.0 = c.in_default.ensures.only is.0 is.1 in cc)

pub returns-clause-written : goal.returns-clause-written
returns-clause-written c = λ is.
    let before : c.args.handle.now.value ≡ Some c.deref.result.now = search rules in
    let written = c.write_found-code.ensures.written is in
    record {
      is = c.deref.result.now;
      held_is = before;
      subscriber = written.0;
      found = (c.in-Some.msisdn, c.in-Some.ensures.found, sym written.1 ∙ c.record_by_number.ensures);
      writes = written.2;
    }

pub returns-clause-why : goal.returns-clause-why
returns-clause-why c = λ no.
    let before : c.args.handle.now.value ≡ Some c.deref.result.now = search rules in
    inr (inr (
      c.deref.result.now,
      before,
      option_copied c.record_by_number.result,
      (c.in-Some.msisdn, c.in-Some.ensures.found, c.record_by_number.ensures),
      c.write_found-code.ensures.why no,
    ))
