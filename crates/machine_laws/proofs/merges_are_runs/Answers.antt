use Rattle.machine_laws.proofs.Merging.{merge_law}
use Rattle.machine_laws.proofs.merges_are_runs.Goals as goal

pub returns : goal.returns
returns c = λ bases states journals merge legal directories hlrs merges. merge_law bases states journals merge legal directories hlrs merges
