use Rattle.frames_laws.proofs.OctetLaws.{merge_of_octets}
use Rattle.wholenode.proofs.laws.merges_are_runs.Goals as goal

pub returns : goal.returns
returns c = merge_of_octets
