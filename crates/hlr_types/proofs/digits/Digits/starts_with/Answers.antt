use Rattle.hlr_types.proofs.PlaceLemmas.{further, same_numbers}
use Rattle.hlr_types.proofs.digits.Digits.starts_with.Goals as goal

pub loop-rest-smaller : goal.loop-rest-smaller
loop-rest-smaller c =
    (further c.loop-rest.start c.loop-rest.rest c.args.self.now c.args.prefix.now c.loop-rest.invariant c.loop-rest-test.true).smaller

pub returns : goal.returns
returns c = same_numbers c.loop-rest.start c.loop-rest.rest c.args.self.now c.args.prefix.now c.loop-rest.invariant c.loop-rest-test.false
