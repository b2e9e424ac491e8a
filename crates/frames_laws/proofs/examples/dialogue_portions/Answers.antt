use Rattle.frames_laws.proofs.Computed as laws
use Rattle.frames_laws.proofs.examples.dialogue_portions.Goals as goal

pub returns : goal.returns
returns c = laws.dialogue_portions
