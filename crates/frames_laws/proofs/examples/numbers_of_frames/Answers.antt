use Rattle.frames_laws.proofs.TagsComputed as laws
use Rattle.frames_laws.proofs.examples.numbers_of_frames.Goals as goal

pub returns : goal.returns
returns c = laws.numbers_of_frames
