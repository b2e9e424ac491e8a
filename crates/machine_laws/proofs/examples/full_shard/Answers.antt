use Rattle.machine_laws.proofs.FullShard.{update_away, route_answered}
use Rattle.machine_laws.proofs.examples.full_shard.Goals as goal

pub returns-clause-update : goal.returns-clause-update
returns-clause-update c = λ S full r. update_away S full r

pub returns-clause-route_asked : goal.returns-clause-route_asked
returns-clause-route_asked c = λ S full r d. route_answered S full r d
