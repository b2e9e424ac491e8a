use Rattle.frames_laws.proofs.Computed as laws
use Rattle.frames_laws.proofs.examples.largest_frame.Goals as goal

pub returns : goal.returns
returns c = laws.largest_frame
