use Rattle.frames_laws.proofs.TreesComputed as laws
use Rattle.frames_laws.proofs.examples.messages_read.Goals as goal

pub returns : goal.returns
returns c = laws.messages_read
