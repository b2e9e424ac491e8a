use Rattle.frames_laws.proofs.Computed as laws
use Rattle.frames_laws.proofs.examples.refused_contexts.Goals as goal

pub returns : goal.returns
returns c = laws.refused_contexts
