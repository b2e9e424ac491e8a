use Rattle.wholenode.proofs.WholeLemmas.{journals_merge}
use Rattle.wholenode.proofs.laws.journals_merge.Goals as goal

pub returns : goal.returns
returns c = journals_merge
