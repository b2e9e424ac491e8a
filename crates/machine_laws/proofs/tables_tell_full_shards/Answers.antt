use Rattle.machine_laws.proofs.Counting.{not_full}
use Rattle.machine_laws.proofs.tables_tell_full_shards.Goals as goal

pub returns : goal.returns
returns c = λ S n table h small full. not_full S n table h small full
