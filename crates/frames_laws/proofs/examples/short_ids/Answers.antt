use Rattle.frames_laws.proofs.Computed as laws
use Rattle.frames_laws.proofs.examples.short_ids.Goals as goal

pub returns : goal.returns
returns c = laws.short_ids
