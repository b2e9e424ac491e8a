use Rattle.frames_laws.proofs.TreesComputed as laws
use Rattle.frames_laws.proofs.examples.indefinite_lengths.Goals as goal

pub returns : goal.returns
returns c = laws.indefinite_lengths
