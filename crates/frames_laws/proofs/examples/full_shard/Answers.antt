use Rattle.frames_laws.proofs.Computed as laws
use Rattle.frames_laws.proofs.examples.full_shard.Goals as goal

pub returns : goal.returns
returns c = laws.full_shard
