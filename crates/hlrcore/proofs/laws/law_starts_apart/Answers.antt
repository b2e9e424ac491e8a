use Rattle.hlrcore.proofs.StartLemmas.{starts_apart}
use Rattle.hlrcore.proofs.laws.law_starts_apart.Goals as goal

pub returns : goal.returns
returns c = starts_apart
