use Rattle.hlrcore.proofs.ReplayLemmas.{one_run}
use Rattle.hlrcore.proofs.laws.law_replayed.Goals as goal

pub returns : goal.returns
returns c = one_run
