use Rattle.std.proofs.Common.{[], ◌∷◌, refl}
use Rattle.machine_laws.proofs.Rising.{rising_map, rising_after}
use Rattle.machine_laws.proofs.Folding.{rejects_more, invocations_more, failed_more, open_is_sent}
use Rattle.machine_laws.proofs.components_come_one_by_one.Goals as goal

pub returns-clause-rejects : goal.returns-clause-rejects
returns-clause-rejects g c = λ offer vs cs k. rejects_more offer vs [] cs k

pub returns-clause-invocations : goal.returns-clause-invocations
returns-clause-invocations g c = λ now cs k vs. invocations_more now cs (k ∷ []) vs

pub returns-clause-failed : goal.returns-clause-failed
returns-clause-failed g c = λ now cs k vs. failed_more now cs (k ∷ []) vs

pub returns-clause-starts : goal.returns-clause-starts
returns-clause-starts g c = λ offer vs k cs. refl

pub returns-clause-open : goal.returns-clause-open
returns-clause-open g c = λ now vs cs j rising. open_is_sent now vs cs j (rising_map vs rising)

pub returns-clause-rising : goal.returns-clause-rising
returns-clause-rising g c = λ now cs vs rising. rising_after now cs vs rising
