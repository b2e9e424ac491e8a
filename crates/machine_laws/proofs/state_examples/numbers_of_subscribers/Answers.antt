use Rattle.std.proofs.Common.{refl}
use Rattle.machine.specs.Opening.{opening}
use Rattle.machine_laws.proofs.state_examples.numbers_of_subscribers.Goals as goal

pub returns-clause-known : goal.returns-clause-known
unfolding opening
returns-clause-known c = refl

pub returns-clause-unknown : goal.returns-clause-unknown
unfolding opening
returns-clause-unknown c = refl

pub returns-clause-withdrawn : goal.returns-clause-withdrawn
returns-clause-withdrawn c = refl
