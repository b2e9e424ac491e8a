use Rattle.frames_laws.proofs.Computed as laws
use Rattle.frames_laws.proofs.examples.hostile_spellings.Goals as goal

pub returns : goal.returns
returns c = laws.hostile_spellings
