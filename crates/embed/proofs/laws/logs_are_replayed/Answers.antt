use Rattle.embed.proofs.AlikeLemmas.{run_replayed}
use Rattle.embed.proofs.laws.logs_are_replayed.Goals as goal

pub returns : goal.returns
returns c = run_replayed
