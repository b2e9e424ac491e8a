use Rattle.frames_laws.proofs.Computed as laws
use Rattle.frames_laws.proofs.examples.deepest_tree.Goals as goal

pub returns : goal.returns
returns c = laws.deepest_tree
