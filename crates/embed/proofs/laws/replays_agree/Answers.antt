use Rattle.embed.proofs.AlikeLemmas.{replayed_alike}
use Rattle.embed.proofs.laws.replays_agree.Goals as goal

pub returns : goal.returns
returns c = replayed_alike
