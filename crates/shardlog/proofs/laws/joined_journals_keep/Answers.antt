use Rattle.shardlog.proofs.LogLemmas.{joined_keep}
use Rattle.shardlog.proofs.laws.joined_journals_keep.Goals as goal

pub returns : goal.returns
returns c = joined_keep
