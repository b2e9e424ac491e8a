use Rattle.frames_laws.proofs.Computed as laws
use Rattle.frames_laws.proofs.examples.same_digits_other_kind.Goals as goal

pub returns : goal.returns
returns c = laws.same_digits_other_kind
