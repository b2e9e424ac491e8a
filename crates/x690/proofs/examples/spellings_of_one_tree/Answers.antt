use Rattle.x690.proofs.Computed as laws
use Rattle.x690.proofs.examples.spellings_of_one_tree.Goals as goal

pub returns : goal.returns
returns c = laws.spellings_of_one_tree
