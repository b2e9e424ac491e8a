use Rattle.x690.proofs.Spellings as laws
use Rattle.x690.proofs.one_tree.Goals as goal

pub returns : goal.returns
returns c = laws.one_tree
