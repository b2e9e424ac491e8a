use Rattle.hlr_types.proofs.PlaceLemmas.{further, at_last}
use Rattle.hlr_types.proofs.digits.Digits.number.Goals as goal

pub loop-rest-smaller : goal.loop-rest-smaller
loop-rest-smaller c = (further c.loop-rest.rest c.loop-rest.rest c.args.self.now c.args.self.now c.loop-rest.invariant c.loop-rest-test.true).smaller

pub returns-clause-value : goal.returns-clause-value
returns-clause-value c = (at_last c.loop-rest.rest c.loop-rest.rest c.args.self.now c.args.self.now c.loop-rest.invariant c.loop-rest-test.false).last
