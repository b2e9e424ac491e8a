use Rattle.frames_laws.proofs.Computed as laws
use Rattle.frames_laws.proofs.examples.unknown_dialogues.Goals as goal

pub returns : goal.returns
returns c = laws.unknown_dialogues
