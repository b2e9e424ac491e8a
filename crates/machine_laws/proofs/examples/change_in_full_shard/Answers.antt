use Rattle.machine_laws.proofs.FullShard.{withdrawal_without_room}
use Rattle.machine_laws.proofs.examples.change_in_full_shard.Goals as goal

pub returns : goal.returns
returns c = λ S full r. withdrawal_without_room S full r
