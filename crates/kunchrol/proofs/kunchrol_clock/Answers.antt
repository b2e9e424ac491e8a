use Rattle.std.proofs.Common.{◌≡◌, ◌≤◌, ◌^◌, rules, arith, inr}
use Rattle.std.specs.Prelude.{Some}
use Rattle.kunchrol.proofs.kunchrol_clock.Goals as goal

pub returns-clause-set : goal.returns-clause-set
returns-clause-set c = λ is.
    let before : c.args.handle.now.value ≡ Some c.deref_mut.result.now = search rules in
    let after : c.put.new.self.value ≡ Some c.set_clocks-code.new.register = search rules in
    let early : c.args.now ≤ 2 ^ 62 = omega arith in
    record {
      early = early;
      was = c.deref_mut.result.now;
      is = c.set_clocks-code.new.register;
      before_is = before;
      after_is = after;
      sets = c.set_clocks-code.ensures.set is;
    }

pub returns-clause-why : goal.returns-clause-why
returns-clause-why c = λ no.
    let before : c.args.handle.now.value ≡ Some c.deref_mut.result.now = search rules in
    let early : c.args.now ≤ 2 ^ 62 = omega arith in
    inr (early, inr (c.deref_mut.result.now, before, c.set_clocks-code.ensures.why no))
