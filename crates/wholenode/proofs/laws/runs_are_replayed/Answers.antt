use Rattle.wholenode.proofs.ReplayLemmas.{replayed}
use Rattle.wholenode.proofs.laws.runs_are_replayed.Goals as goal

pub returns : goal.returns
returns c = replayed
