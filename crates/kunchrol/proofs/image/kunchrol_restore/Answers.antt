use Rattle.std.proofs.Common.{◌≡◌, rules, refl, subst, inl, inr}
use Rattle.std.specs.Prelude.{None, Some}
use Rattle.shardlog.specs.declared.keep.Keep.{Keep}
use Rattle.embed.specs.Images.{GoesOnFrom}
use Rattle.kunchrol.proofs.image.kunchrol_restore.Goals as goal

pub returns-in-Ok-new-clause-restored : goal.returns-in-Ok-new-clause-restored
returns-in-Ok-new-clause-restored c = λ is.
    let closed : c.args.handle.now.value ≡ None = search rules in
    let after : c.put-in-Ok-new.new.self.value ≡ Some c.in-Ok.register = search rules in
    let found = c.in-Ok.ensures.found in
    record {
      was_closed = closed;
      contents = found.0;
      file = found.1;
      is = c.in-Ok.register;
      after_is = after;
      goes_on = subst (λ (k : Keep). GoesOnFrom found.0 k c.args.image.now c.in-Ok.register) c.keep_of.ensures found.2;
    }

pub returns-in-Some-clause-why : goal.returns-in-Some-clause-why
returns-in-Some-clause-why c = λ _.
    let before : c.args.handle.now.value ≡ Some c.in-Some.register.value = search rules in inr (inl (refl, refl, (c.in-Some.register.value, before)))
