use Rattle.std.proofs.Common.{◌≡◌, ◌<◌, ℕ, length, rules, subst, inr}
use Rattle.std.specs.Prelude.{Some}
use Rattle.embed.specs.Images.{IsImageOf}
use Rattle.kunchrol.specs.Refusals.{RefusesRoom}
use Rattle.kunchrol.proofs.image.kunchrol_image.Goals as goal

pub returns-clause-written : goal.returns-clause-written
returns-clause-written c = λ is.
    let was = c.deref.result.now in
    let before : c.args.handle.now.value ≡ Some was = search rules in
    let shard_is : c.in-Some.shard ≡ c.args.shard = search rules in
    let listed = c.write_image-code.ensures.written is in
    record {
      is = was;
      held_is = before;
      text = listed.0;
      image = subst (λ (n : ℕ). IsImageOf was.node n listed.0) shard_is listed.1;
      writes = listed.2;
    }

pub returns-clause-why : goal.returns-clause-why
returns-clause-why c = λ no.
    let was = c.deref.result.now in
    let buffer = length c.args.buffer.now in
    let len = c.write_image-code.new.len in
    let code = c.write_image-code.result in
    let before : c.args.handle.now.value ≡ Some was = search rules in
    let shard_is : c.in-Some.shard ≡ c.args.shard = search rules in
    let stands : c.args.shard < 16 = search rules in
    inr (
      stands,
      inr (was, before, subst (λ (n : ℕ). RefusesRoom (IsImageOf was.node n) buffer len code) shard_is (c.write_image-code.ensures.why no)),
    )
